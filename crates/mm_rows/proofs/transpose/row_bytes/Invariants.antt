use Rattle.std.proofs.Common.{◌≤◌, ◌+◌, ◌*◌}
use Rattle.mm_rows.proofs.BandLaw.{BytesTo}
use Rattle.mm_rows.proofs.transpose.row_bytes.Given as goal

abbrev pub invariant-loop-k : goal.invariant-loop-k
invariant-loop-k l =
    record {
      last_le_rows : 64 * l.w + l.k ≤ l.rows;
      bytes : BytesTo l.across l.bits l.byte_index l.bytes (64 * l.w) l.k;
    }
