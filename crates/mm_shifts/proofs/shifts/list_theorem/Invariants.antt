use Rattle.std.proofs.Common.{None, length, ◌≤◌, ◌-◌}
use Rattle.std.specs.Prelude.{slice_index}
use Rattle.std.specs.Option.{option_copied}
use Rattle.mm_spec.specs.Output.{theorems, columns}
use Rattle.mm_shifts.specs.Shifted.{AreShiftedOfFirst}
use Rattle.mm_shifts.proofs.shifts.list_theorem.Given as goal

abbrev pub invariant-loop-marked : goal.invariant-loop-marked
invariant-loop-marked g l = record {
  within : l.column ≤ length (columns l.this.contents.statements None);
  up_to : AreShiftedOfFirst (columns l.this.contents.statements None) l.this l.other
      (option_copied l.only) (slice_index (theorems l.this.contents.statements) l.row) l.column
      l.into.items;
}

abbrev pub decreases-loop-marked : goal.decreases-loop-marked
decreases-loop-marked g l = length (columns l.this.contents.statements None) - l.column
