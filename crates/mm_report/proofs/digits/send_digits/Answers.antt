use Rattle.std.proofs.Common.{◌≡◌, ◌≤◌, ◌+◌, ◌*◌, ◌++◌, ◌∙◌, ap, sym, arith, map, min, take, length}
use Rattle.std.specs.List.{range_with_len}
use Rattle.std.specs.Int.{div_ceil}
use Rattle.std.proofs.lemmas.List.{length-take-le}
use Rattle.std.proofs.lemmas.List.FromFn.{take-map-range_with_len}
use Rattle.mm_report.proofs.SentLaw.{sent_nothing, sent_both, sent_equal_text}
use Rattle.mm_report.proofs.DigitLaw.{digit_text, digits_append, marks_as_many_as_columns}
use Rattle.mm_report.proofs.digits.send_digits.Goals as goal

pub loop-word-init : goal.loop-word-init
loop-word-init g c =
    let no_digits_yet : 0 ≡ min 0 (div_ceil c.args.marked.now.columns 4) = omega arith in
    record {
      word_le_words = omega arith;
      sent =
          sent_equal_text _
          (ap (λ n. map (digit_text c.args.marked.now c.args.row) (range_with_len 0 n))
          no_digits_yet)
          sent_nothing;
    }

pub loop-word-preserved : goal.loop-word-preserved
loop-word-preserved g c =
    let f = digit_text c.args.marked.now c.args.row in
    let columns = c.args.marked.now.columns in
    let word = c.loop-word.word in
    let count = c.min-word_count.result in
    let words_is = c.div_ceil-words.ensures in
    let columns_is = c.columns.ensures in
    let columns_unchanged = c.columns-in-loop-word.ensures in
    let word_lt_words = c.loop-word-test.true in
    let count_is_least = c.min-word_count.ensures in
    let count_fits_array = c.min-word_count.array_long in
    let shown_is = c.min.ensures in
    let digit_count_is = c.div_ceil.ensures in
    let digits_le_buffer : 16 * count ≤ length c.loop-word.digits =
    omega (arith, count_is_least, count_fits_array) in
    let part_is_digits =
    c.write_digits.ensures
    ∙ ap (λ n. map f (range_with_len (16 * word) n))
    (length-take-le (16 * count) c.loop-word.digits digits_le_buffer) in
    let shown_le_digits : c.min.result ≤ 16 * count = omega (arith, shown_is) in
    let piece_is_digits =
    ap (take c.min.result) part_is_digits
    ∙ take-map-range_with_len f (16 * word) (16 * count) c.min.result shown_le_digits in
    let digits_before_word : min (16 * word) (div_ceil columns 4) ≡ 16 * word =
    omega (arith, words_is, columns_is, word_lt_words) in
    let digits_after_piece : 16 * word + c.min.result
    ≡ min (16 * (word + count)) (div_ceil columns 4) =
    omega (
      arith,
      words_is,
      columns_is,
      columns_unchanged,
      word_lt_words,
      shown_is,
      digit_count_is,
    ) in
    record {
      word_le_words = omega (arith, words_is, columns_is, count_is_least, word_lt_words);
      sent =
          sent_equal_text _
          (ap (λ n. map f (range_with_len 0 n) ++ map f (range_with_len (16 * word) c.min.result))
          digits_before_word
          ∙ digits_append f (16 * word) c.min.result _ digits_after_piece)
          (sent_both c.loop-word.invariant.sent (sent_equal_text _ piece_is_digits c.send.ensures));
    }

pub returns : goal.returns
returns g c =
    let f = digit_text c.args.marked.now c.args.row in
    let columns = c.args.marked.now.columns in
    let marks_as_columns = marks_as_many_as_columns c.args.marked.now c.args.row in
    let words_is = c.div_ceil-words.ensures in
    let columns_is = c.columns.ensures in
    let words_le_word = c.loop-word-test.false in
    let all_digits_sent : min (16 * c.loop-word.word) (div_ceil columns 4) ≡ div_ceil columns 4 =
    omega (arith, words_is, columns_is, words_le_word) in
    sent_equal_text _
    (ap (λ n. map f (range_with_len 0 n)) (all_digits_sent
    ∙ sym (ap (λ n. div_ceil n 4) marks_as_columns)))
    c.loop-word.invariant.sent
