use Rattle.std.proofs.Common.{◌≡◌, map, take}
use Rattle.mm_spec.specs.Derivation.{pair}
use Rattle.mm_frame.proofs.disjoint.symbol_pairs.Given as goal

abbrev pub invariant-loop-low : goal.invariant-loop-low
invariant-loop-low g l =
    map (λ p. pair p.0 p.1) l.symbols.items ≡ map (λ p. pair p.0 p.1) (take l.low-index l.pairs)
