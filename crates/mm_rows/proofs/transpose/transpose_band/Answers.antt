use Rattle.std.proofs.Common.{◌<◌, ◌+◌, ◌*◌, ◌/◌, length, arith, subst, ap, sym, ◌∙◌}
use Rattle.mm_rows.specs.Bits.{words_for}
use Rattle.mm_rows.proofs.BandLaw.{skipped_columns_are_written, next_band_is_begun}
use Rattle.mm_rows.specs.Bands.{ColumnsWritten}
use Rattle.mm_rows.proofs.transpose.transpose_band.Goals as goal

pub write_columns-requires-clause-columns_written :
    goal.write_columns-requires-clause-columns_written
write_columns-requires-clause-columns_written c =
    let band_lt_words = c.requires.band_has_row in
    let w_lt_words : c.args.w < words_for c.args.rows = omega (arith, band_lt_words) in
    let first_le_j = c.in-Some.ensures.is_first.0 in
    let none_before_j = c.in-Some.ensures.is_first.3 in
    skipped_columns_are_written c.args.rows c.args.columns c.args.bits.now c.loop-j.transposed
    c.args.w w_lt_words c.mark_columns.new.has_mark (length c.args.has_mark.now)
    (8 * c.loop-j.byte_index) (8 * (c.in-Some.j / 8)) c.requires.width_is c.mark_columns.ensures
    (omega (arith, first_le_j))
    (λ j first_le_i i_lt_end. none_before_j j first_le_i (omega arith)) c.loop-j.invariant.written

pub returns : goal.returns
returns c =
    let band_lt_words = c.requires.band_has_row in
    let w_lt_words : c.args.w < words_for c.args.rows = omega (arith, band_lt_words) in
    let past_columns = c.args.columns + 8 * c.loop-j.byte_index in
    let all_written =
    skipped_columns_are_written c.args.rows c.args.columns c.args.bits.now c.loop-j.transposed
    c.args.w w_lt_words c.mark_columns.new.has_mark (length c.args.has_mark.now)
    (8 * c.loop-j.byte_index) past_columns c.requires.width_is c.mark_columns.ensures
    (omega arith) (λ j first_le_i i_lt_end. c.in_default.ensures.none_is_there j first_le_i)
    c.loop-j.invariant.written in
    next_band_is_begun c.args.rows c.args.columns c.args.bits.now c.loop-j.transposed c.args.w
    past_columns (omega arith) all_written

pub loop-j-smaller : goal.loop-j-smaller
loop-j-smaller c =
    let first_le_j = c.in-Some.ensures.is_first.0 in
    let j_lt_end = c.in-Some.ensures.is_first.1 in
    omega (arith, first_le_j, j_lt_end)

pub loop-j-preserved : goal.loop-j-preserved
loop-j-preserved c = record {
  index_le_end =
      (let j_lt_end_of_marks = c.in-Some.ensures.is_first.1 in omega (arith, j_lt_end_of_marks));
  written =
      subst (λ n. ColumnsWritten c.args.rows c.args.columns c.args.bits.now
      c.write_columns.new.transposed
      c.args.w n) (omega arith) c.write_columns.ensures;
}

pub mark_columns-requires-clause-words_le_2_26 : goal.mark_columns-requires-clause-words_le_2_26
mark_columns-requires-clause-words_le_2_26 c =
    let width_is = c.requires.width_is in let columns_lt_2_31 = c.requires.is_table.columns_lt_2_31
    in omega (arith, width_is, columns_lt_2_31)

pub mark_columns-requires-clause-size_is : goal.mark_columns-requires-clause-size_is
mark_columns-requires-clause-size_is c =
    c.requires.is_table.size_is ∙ ap (λ n. c.args.rows * n) (sym c.requires.width_is)

pub write_columns-requires-clause-byte_lt_row : goal.write_columns-requires-clause-byte_lt_row
write_columns-requires-clause-byte_lt_row c =
    let first_le_j = c.in-Some.ensures.is_first.0 in
    let j_lt_end = c.in-Some.ensures.is_first.1 in
    let width_is = c.requires.width_is in
    omega (arith, first_le_j, j_lt_end, width_is)
