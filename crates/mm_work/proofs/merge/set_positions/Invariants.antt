use Rattle.std.proofs.Common.{◌≡◌, ◌<◌, ◌⊎◌, ℕ, length, slice_index, slice_get}
use Rattle.mm_work.specs.Positions.{IsWithWorker}
use Rattle.mm_work.proofs.merge.set_positions.Given as goal

abbrev pub invariant-loop-list : goal.invariant-loop-list
invariant-loop-list l = record {
  count_is : length l.positions ≡ length l.fn.positions;
  are_with_worker : (q : ℕ) → q < l.list
      → IsWithWorker l.positions l.worker l.valid (slice_index l.valid q);
  others_stay : (i : ℕ) → IsWithWorker l.positions l.worker l.valid i
      ⊎ (slice_get l.positions i ≡ slice_get l.fn.positions i);
}
