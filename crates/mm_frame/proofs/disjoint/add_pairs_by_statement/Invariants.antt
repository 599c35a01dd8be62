use Rattle.std.proofs.Common.{◌≡◌, ℕ, ◌||◌, take}
use Rattle.std.specs.List.{list_any}
use Rattle.mm_database.specs.Pairs.{has_pair}
use Rattle.mm_frame.specs.Together.{has_later}
use Rattle.mm_frame.proofs.disjoint.add_pairs_by_statement.Given as goal

abbrev pub invariant-loop-index : goal.invariant-loop-index
invariant-loop-index g l =
    (x y : ℕ)
    → has_pair l.pairs.items x y
    ≡ (has_pair l.initial.pairs.items x y
    || list_any (λ p. has_later l.by_statement p x y) (take l.index l.by_statement))
