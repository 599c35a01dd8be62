use Rattle.std.proofs.Common.{◌≡◌, drop}
use Rattle.std.specs.Cmp.Lexicographic.{pointwise}
use Rattle.mm_spec.specs.Comparison.{is_same_hypothesis}
use Rattle.mm_compare.proofs.hypotheses.are_same_hypotheses.Given as goal

abbrev pub invariant-loop-i : goal.invariant-loop-i
invariant-loop-i g l =
    pointwise (is_same_hypothesis l.database.statements l.other.statements) (drop l.i l.hypotheses)
    (drop l.i l.others)
    ≡ pointwise (is_same_hypothesis l.database.statements l.other.statements) l.hypotheses
    l.others
