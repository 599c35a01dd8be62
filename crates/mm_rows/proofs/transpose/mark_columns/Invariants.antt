use Rattle.std.proofs.Common.{◌≤◌, ◌*◌}
use Rattle.mm_rows.proofs.BandLaw.{AreMarked}
use Rattle.mm_rows.proofs.transpose.mark_columns.Given as goal

abbrev pub invariant-loop-i : goal.invariant-loop-i
invariant-loop-i l =
    record {
      band_le_i : 64 * l.w ≤ l.i;
      marked : AreMarked l.across l.bits l.has_mark (64 * l.w)
          l.i;
    }
