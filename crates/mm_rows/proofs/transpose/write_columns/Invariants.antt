use Rattle.std.proofs.Common.{◌≤◌, ◌+◌, ◌*◌}
use Rattle.mm_rows.specs.Bands.{ColumnsWritten}
use Rattle.mm_rows.proofs.transpose.write_columns.Given as goal

abbrev pub invariant-loop-j : goal.invariant-loop-j
invariant-loop-j l =
    record {
      from : 8 * l.byte_index ≤ l.j;
      within : l.j ≤ 8 * l.byte_index + 8;
      written : ColumnsWritten l.rows l.columns l.bits l.transposed l.w l.j;
    }
