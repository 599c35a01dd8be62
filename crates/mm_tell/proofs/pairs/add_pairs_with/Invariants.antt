use Rattle.std.proofs.Common.{◌≡◌, ◌++◌, map, take}
use Rattle.std.specs.List.{filter}
use Rattle.mm_spec.specs.Derivation.{pair}
use Rattle.mm_spec.specs.Assertion.{is_with_dummy}
use Rattle.mm_tell.proofs.pairs.add_pairs_with.Given as goal

abbrev pub invariant-loop-high : goal.invariant-loop-high
invariant-loop-high g l =
    map (λ p. pair p.0 p.1) l.into.items
    ≡ map (λ p. pair p.0 p.1) l.initial.into.items
    ++ filter (is_with_dummy l.database.statements l.theorem)
    (map (pair l.low) (take l.high-index l.others))
