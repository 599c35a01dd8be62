use Rattle.std.proofs.Common.{ℕ, ◌≡◌, ◌<◌, ◌≤◌, ◌+◌, ◌*◌, arith, subst, ap, sym, ◌∙◌}
use Rattle.mm_rows.specs.Bits.{words_for}
use Rattle.mm_rows.specs.Bands.{AreRowBytes, ColumnsWritten}
use Rattle.mm_rows.proofs.BandLaw.{lane_is_column_word, next_word_is_written, zero_word_is_written}
use Rattle.mm_rows.proofs.BandLaw.{zero_words_are_written}
use Rattle.mm_rows.proofs.transpose.write_columns.Goals as goal
use Rattle.mm_rows.proofs.transpose.write_columns.Goals.{then-word-ne0, else-word-ne0}

pub loop-j-preserved : goal.loop-j-preserved
loop-j-preserved c =
    let rows = c.args.rows in
    let columns = c.args.columns in
    let bits = c.args.bits.now in
    let w = c.args.w in
    let j = c.loop-j.j in
    let invariant_before = c.loop-j.invariant in
    let j_lt_end = c.loop-j-test.true in
    let end_is = c.min-j-end.ensures in
    let first_le_j : 8 * c.args.byte_index ≤ j = invariant_before.from in
    let j_lt_columns : j < columns = omega (arith, j_lt_end, end_is) in
    let j_lt_last : j < 8 * c.args.byte_index + 8 = omega (arith, j_lt_end, end_is) in
    let w_lt_words : w < words_for rows = let band_lt_words = c.requires.band_has_row in
    omega (arith, band_lt_words) in
    let are_row_bytes =
    subst (λ (x : ℕ). AreRowBytes rows x bits w c.args.byte_index c.row_bytes-bytes.result)
    c.div_ceil.ensures c.row_bytes-bytes.ensures in
    let is_column_word =
    lane_is_column_word rows (words_for columns) bits w c.args.byte_index c.row_bytes-bytes.result j
    c.lane_bits-word.result are_row_bytes
    first_le_j j_lt_last c.lane_bits-word.ensures in
    let word_is_written =
    next_word_is_written rows columns bits c.loop-j.transposed w w_lt_words j
    c.lane_bits-word.result j_lt_columns is_column_word invariant_before.written in
    let zero_is_written =
    λ (word_is_zero : c.lane_bits-word.result ≡ 0). zero_word_is_written rows columns bits
    c.loop-j.transposed w w_lt_words j c.lane_bits-word.result is_column_word word_is_zero
    invariant_before.written in
    let one_more_is_written : ColumnsWritten rows columns bits c.if-word-ne0.transposed
    w (j + 1) =
    elim c.if-word-ne0.branch [
      | then-word-ne0 branch ↦ rw (branch.transposed-is, c.div_ceil-down.ensures)
          word_is_written
      | else-word-ne0 branch ↦ rw branch.transposed-is
          (zero_is_written branch.if-word-ne0.false)
    ] in
    record { from = omega arith; within = omega arith; written = one_more_is_written }

pub returns : goal.returns
returns c =
    let end_is = c.min-j-end.ensures in
    let end_le_j = c.loop-j-test.false in
    let band_lt_words = c.requires.band_has_row in
    let w_lt_words : c.args.w < words_for c.args.rows = omega (arith, band_lt_words) in
    zero_words_are_written c.args.rows c.args.columns c.args.bits.now c.loop-j.transposed c.args.w
    w_lt_words c.loop-j.j (8 * c.args.byte_index + 8)
    (λ i j_le_i i_lt_last i_lt_columns. absurd (omega (arith, end_is, end_le_j)))
    c.loop-j.invariant.within c.loop-j.invariant.written

pub row_bytes-bytes-requires-clause-words_le_2_26 :
    goal.row_bytes-bytes-requires-clause-words_le_2_26
row_bytes-bytes-requires-clause-words_le_2_26 c =
    let columns_lt_2_31 = c.requires.is_table.columns_lt_2_31 in let width_is = c.div_ceil.ensures
    in omega (arith, columns_lt_2_31, width_is)

pub row_bytes-bytes-requires-clause-size_is : goal.row_bytes-bytes-requires-clause-size_is
row_bytes-bytes-requires-clause-size_is c =
    c.requires.is_table.size_is ∙ ap (λ n. c.args.rows * n) (sym c.div_ceil.ensures)

pub row_bytes-bytes-requires-clause-byte_lt_row : goal.row_bytes-bytes-requires-clause-byte_lt_row
row_bytes-bytes-requires-clause-byte_lt_row c =
    let columns_fit_row = c.requires.byte_lt_row in let width_is = c.div_ceil.ensures in
    omega (arith, columns_fit_row, width_is)
