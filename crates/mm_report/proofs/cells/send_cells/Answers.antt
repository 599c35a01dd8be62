use Rattle.std.proofs.Common.{◌≡◌, ◌≤◌, ◌+◌, ◌*◌, ◌++◌, ◌∙◌, ap, arith, map, min, take, length}
use Rattle.std.specs.List.{range_with_len}
use Rattle.std.proofs.lemmas.List.{length-take-le}
use Rattle.std.proofs.lemmas.List.FromFn.{take-map-range_with_len}
use Rattle.mm_report.proofs.SentLaw.{sent_nothing, sent_both, sent_equal_text}
use Rattle.mm_report.proofs.DigitLaw.{cell_text, digits_append, cells_are_digits_of_marks}
use Rattle.mm_report.proofs.cells.send_cells.Goals as goal

pub loop-word-init : goal.loop-word-init
loop-word-init g c =
    let no_cells_yet : 0 ≡ min 0 c.args.marked.now.columns = omega arith in
    record {
      word_le_words = omega arith;
      sent =
          sent_equal_text _
          (ap (λ n. map (cell_text c.args.marked.now c.args.row) (range_with_len 0 n)) no_cells_yet)
          sent_nothing;
    }

pub loop-word-preserved : goal.loop-word-preserved
loop-word-preserved g c =
    let f = cell_text c.args.marked.now c.args.row in
    let columns = c.args.marked.now.columns in
    let word = c.loop-word.word in
    let count = c.min-word_count.result in
    let words_is = c.div_ceil-words.ensures in
    let columns_is = c.columns.ensures in
    let columns_unchanged = c.columns-in-loop-word.ensures in
    let word_lt_words = c.loop-word-test.true in
    let count_is_least = c.min-word_count.ensures in
    let count_fits_array = c.min-word_count.array_long in
    let shown_is = c.min.ensures in
    let cells_le_buffer : 64 * count ≤ length c.loop-word.digits =
    omega (arith, count_is_least, count_fits_array) in
    let part_is_cells =
    c.write_cells.ensures
    ∙ ap (λ n. map f (range_with_len (64 * word) n))
    (length-take-le (64 * count) c.loop-word.digits cells_le_buffer) in
    let shown_le_cells : c.min.result ≤ 64 * count = omega (arith, shown_is) in
    let piece_is_cells =
    ap (take c.min.result) part_is_cells
    ∙ take-map-range_with_len f (64 * word) (64 * count) c.min.result shown_le_cells in
    let cells_before_word : min (64 * word) columns ≡ 64 * word =
    omega (arith, words_is, columns_is, word_lt_words) in
    let cells_after_piece : 64 * word + c.min.result ≡ min (64 * (word + count)) columns =
    omega (arith, words_is, columns_is, columns_unchanged, word_lt_words, shown_is) in
    record {
      word_le_words = omega (arith, words_is, columns_is, count_is_least, word_lt_words);
      sent =
          sent_equal_text _
          (ap (λ n. map f (range_with_len 0 n) ++ map f (range_with_len (64 * word) c.min.result))
          cells_before_word
          ∙ digits_append f (64 * word) c.min.result _ cells_after_piece)
          (sent_both c.loop-word.invariant.sent (sent_equal_text _ piece_is_cells c.send.ensures));
    }

pub returns : goal.returns
returns g c =
    let f = cell_text c.args.marked.now c.args.row in
    let columns = c.args.marked.now.columns in
    let words_is = c.div_ceil-words.ensures in
    let columns_is = c.columns.ensures in
    let words_le_word = c.loop-word-test.false in
    let all_cells_sent : min (64 * c.loop-word.word) columns ≡ columns =
    omega (arith, words_is, columns_is, words_le_word) in
    sent_equal_text _
    (ap (λ n. map f (range_with_len 0 n)) all_cells_sent
    ∙ cells_are_digits_of_marks c.args.marked.now c.args.row)
    c.loop-word.invariant.sent
