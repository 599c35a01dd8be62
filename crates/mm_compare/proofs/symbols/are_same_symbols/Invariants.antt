use Rattle.std.proofs.Common.{◌≡◌, drop}
use Rattle.std.specs.Cmp.Lexicographic.{pointwise}
use Rattle.mm_spec.specs.Comparison.{has_same_name}
use Rattle.mm_compare.proofs.symbols.are_same_symbols.Given as goal

abbrev pub invariant-loop-i : goal.invariant-loop-i
invariant-loop-i g l =
    pointwise (has_same_name l.database.statements l.other.statements) (drop l.i l.xs)
    (drop l.i l.ys)
    ≡ pointwise (has_same_name l.database.statements l.other.statements) l.xs l.ys
