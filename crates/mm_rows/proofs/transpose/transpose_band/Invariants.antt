use Rattle.std.proofs.Common.{◌≤◌, ◌*◌, ◌-◌, length}
use Rattle.mm_rows.specs.Bands.{ColumnsWritten}
use Rattle.mm_rows.proofs.transpose.transpose_band.Given as goal

abbrev pub invariant-loop-j : goal.invariant-loop-j
invariant-loop-j l =
    record {
      index_le_end : l.byte_index ≤ 8 * length l.has_mark;
      written : ColumnsWritten l.rows l.columns l.bits l.transposed l.w (8 * l.byte_index);
    }

abbrev pub decreases-loop-j : goal.decreases-loop-j
decreases-loop-j l = 8 * length l.has_mark - l.byte_index
