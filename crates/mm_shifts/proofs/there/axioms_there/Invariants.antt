use Rattle.std.proofs.Common.{◌≡◌, ◌<◌, ℕ, length, None}
use Rattle.std.specs.Prelude.{slice_index, slice_index_or}
use Rattle.mm_spec.specs.Output.{columns}
use Rattle.mm_compare.specs.Frames.{AreKnown}
use Rattle.mm_compare.specs.Sides.{IsTheSame}
use Rattle.mm_shifts.specs.Resting.{side_in}
use Rattle.mm_shifts.proofs.there.axioms_there.Given as goal

abbrev pub invariant-loop-i : goal.invariant-loop-i
invariant-loop-i g l = record {
  are_known : AreKnown l.this.contents.statements l.other.contents.statements l.known;
  count_is : length l.there.items ≡ l.i;
  each_is_same : (j : ℕ) → j < l.i
      → IsTheSame (side_in l.this) (slice_index (columns l.this.contents.statements None) j)
      (side_in l.other) (slice_index_or l.there.items j None);
}
