use Rattle.std.proofs.Common.{◌≡◌, drop, map}
use Rattle.std.specs.List.{list_all}
use Rattle.mm_spec.specs.Derivation.{pair}
use Rattle.mm_spec.specs.Comparison.{is_distinct_there}
use Rattle.mm_compare.proofs.pairs.are_pairs_distinct_there.Given as goal

abbrev pub invariant-loop-i : goal.invariant-loop-i
invariant-loop-i g l =
    list_all (is_distinct_there l.database.statements l.other.statements l.at)
    (map (λ p. pair p.0 p.1) (drop l.i l.pairs))
    ≡ list_all (is_distinct_there l.database.statements l.other.statements l.at)
    (map (λ p. pair p.0 p.1) l.pairs)
