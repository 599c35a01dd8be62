use Rattle.std.proofs.Common.{◌≡◌, drop, map}
use Rattle.std.specs.Cmp.Lexicographic.{pointwise}
use Rattle.mm_spec.specs.Derivation.{pair}
use Rattle.mm_compare.specs.Frames.{is_same_pair}
use Rattle.mm_compare.proofs.frames.are_same_pairs.Given as goal

abbrev pub invariant-loop-i : goal.invariant-loop-i
invariant-loop-i g l =
    pointwise (is_same_pair l.database.statements l.other.statements)
    (map (λ p. pair p.0 p.1) (drop l.i l.pairs)) (map (λ p. pair p.0 p.1) (drop l.i l.others))
    ≡ pointwise (is_same_pair l.database.statements l.other.statements)
    (map (λ p. pair p.0 p.1) l.pairs) (map (λ p. pair p.0 p.1) l.others)
