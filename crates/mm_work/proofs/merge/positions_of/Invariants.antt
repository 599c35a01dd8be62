use Rattle.std.proofs.Common.{◌≡◌, ◌<◌, ℕ, Some, length, slice_get}
use Rattle.std.specs.List.{Contains}
use Rattle.mm_work.specs.declared.worker.Findings.{Findings}
use Rattle.mm_work.specs.Positions.{HasPosition}
use Rattle.mm_work.proofs.merge.positions_of.Given as goal

abbrev pub invariant-loop-worker : goal.invariant-loop-worker
invariant-loop-worker g l = record {
  count_is : length l.positions.items ≡ l.count;
  have_positions : (v : ℕ) (f : Findings _) (i : ℕ) → v < l.worker → slice_get l.all_findings v
      ≡ Some f → Contains f.valid.items i → HasPosition l.positions.items l.all_findings i;
}
