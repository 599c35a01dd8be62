use Rattle.std.proofs.Common.{◌≡◌, ℕ, ◌&&◌, ◌||◌, take, nat_eq, nat_lt}
use Rattle.mm_spec.specs.Derivation.{is_member}
use Rattle.mm_database.specs.Pairs.{has_pair}
use Rattle.mm_database.specs.DisjointIndex.{is_active_in_row}
use Rattle.mm_frame.proofs.disjoint.add_looked_up.Given as goal

abbrev pub invariant-loop-variable : goal.invariant-loop-variable
invariant-loop-variable g l =
    (x y : ℕ)
    → has_pair l.pairs.items x y
    ≡ (has_pair l.initial.pairs.items x y
    || (is_member (take l.variable-index l.variables) y
    && (nat_eq x l.low && (nat_lt l.low y && is_active_in_row l.blocks l.row y l.fn.at))))
