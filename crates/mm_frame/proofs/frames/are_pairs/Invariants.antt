use Rattle.std.proofs.Common.{◌≡◌, map, take}
use Rattle.mm_spec.specs.Derivation.{pair}
use Rattle.mm_frame.proofs.frames.are_pairs.Given as goal

abbrev pub invariant-loop-index : goal.invariant-loop-index
invariant-loop-index l =
    map (λ p. pair p.0 p.1) (take l.index l.symbols) ≡ map (λ p. pair p.0 p.1) (take l.index
    l.pairs)
