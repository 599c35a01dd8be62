use Rattle.std.proofs.Common.{◌≡◌, ℕ, ◌&&◌, take, nat_le, slice_index}
use Rattle.mm_spec.specs.Derivation.{is_member}
use Rattle.mm_frame.proofs.disjoint.list_disjoint_variables.Given as goal

abbrev pub invariant-loop-variable : goal.invariant-loop-variable
invariant-loop-variable g l =
    (x : ℕ)
    → is_member l.disjoint_variables.items x
    ≡ (is_member (take l.variable-index l.variables) x
    && nat_le l.at (slice_index l.disjoint_ends x))
