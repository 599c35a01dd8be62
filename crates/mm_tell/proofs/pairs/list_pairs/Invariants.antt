use Rattle.std.proofs.Common.{◌≡◌, map, take}
use Rattle.std.specs.Prelude.{flat_map}
use Rattle.std.specs.List.{filter}
use Rattle.mm_spec.specs.Derivation.{pair}
use Rattle.mm_spec.specs.Assertion.{is_with_dummy}
use Rattle.mm_tell.proofs.pairs.list_pairs.Given as goal

abbrev pub invariant-loop-low : goal.invariant-loop-low
invariant-loop-low g l =
    map (λ p. pair p.0 p.1) l.into.items
    ≡ filter (is_with_dummy l.database.statements l.theorem)
    (flat_map (λ x. map (pair x) l.used_variables) (take l.low-index l.used_variables))
