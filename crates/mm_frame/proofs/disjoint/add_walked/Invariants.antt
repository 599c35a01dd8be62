use Rattle.std.proofs.Common.{◌≡◌, ℕ, ◌&&◌, ◌||◌, take, nat_eq, nat_lt}
use Rattle.std.specs.List.{list_any}
use Rattle.mm_spec.specs.Derivation.{is_member}
use Rattle.mm_database.specs.Pairs.{has_pair}
use Rattle.mm_database.specs.DisjointIndex.{is_active_local}
use Rattle.mm_frame.proofs.disjoint.add_walked.Given as goal

abbrev pub invariant-loop-pair : goal.invariant-loop-pair
invariant-loop-pair g l =
    (x y : ℕ)
    → has_pair l.pairs.items x y
    ≡ (has_pair l.initial.pairs.items x y
    || list_any (λ p. nat_eq y p.0 && (nat_eq x l.low && (nat_lt l.low p.0
    && (is_member l.variables p.0 && is_active_local l.blocks p.1 l.fn.at))))
    (take l.pair-index l.row))
