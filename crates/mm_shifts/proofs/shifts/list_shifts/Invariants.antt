use Rattle.std.proofs.Common.{◌≡◌, ◌<◌, ℕ, length, []}
use Rattle.std.specs.Prelude.{slice_index, slice_index_or}
use Rattle.std.specs.Option.{option_copied}
use Rattle.mm_spec.specs.Output.{theorems}
use Rattle.mm_spec.specs.Comparison.{AreShifted}
use Rattle.mm_shifts.specs.Resting.{Rests, side_in}
use Rattle.mm_shifts.proofs.shifts.list_shifts.Given as goal

abbrev pub invariant-loop-row : goal.invariant-loop-row
invariant-loop-row g l = record {
  count_is : length l.lists ≡ l.row;
  each_is_shifted : (i : ℕ) → i < l.row
      → AreShifted (Rests l.this) (Rests l.other) (option_copied l.only) (side_in l.this)
      (side_in l.other) (slice_index (theorems l.this.contents.statements) i)
      (slice_index_or l.lists i []);
}
