use Rattle.std.proofs.Common.{◌*◌, length, arith}
use Rattle.mm_rows.proofs.BandLaw.{row_or_marks_columns, band_bits_are_marked}
use Rattle.mm_rows.proofs.transpose.mark_columns.Goals as goal

pub loop-i-preserved : goal.loop-i-preserved
loop-i-preserved c = record {
  band_le_i = let band_le_i_before = c.loop-i.invariant.band_le_i in omega arith;
  marked =
      row_or_marks_columns (length c.args.has_mark.now) c.args.rows c.args.bits.now
      c.loop-i.has_mark c.or_row.new.into
      (64 * c.args.w) c.loop-i.i (omega arith) c.requires.size_is (omega arith)
      (omega arith) c.or_row.ensures c.loop-i.invariant.marked;
}

pub returns : goal.returns
returns c =
    band_bits_are_marked (length c.args.has_mark.now) c.args.rows c.args.bits.now
    c.loop-i.has_mark c.args.w c.loop-i.i (omega arith) c.loop-i.invariant.marked
