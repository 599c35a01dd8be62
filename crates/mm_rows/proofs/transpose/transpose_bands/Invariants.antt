use Rattle.mm_rows.specs.Bands.{ColumnsWritten}
use Rattle.mm_rows.proofs.transpose.transpose_bands.Given as goal

abbrev pub invariant-loop-w : goal.invariant-loop-w
invariant-loop-w l = record { written : ColumnsWritten l.rows l.columns l.bits l.transposed l.w 0 }
