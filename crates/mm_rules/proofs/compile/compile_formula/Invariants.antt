use Rattle.std.proofs.Common.{◌≡◌, ◌++◌, take}
use Rattle.mm_rules.specs.Rules.{indexed_parts}
use Rattle.mm_rules.proofs.compile.compile_formula.Given as goal

abbrev pub invariant-loop-symbol : goal.invariant-loop-symbol
invariant-loop-symbol g l =
    l.parts.items
    ≡ l.initial.parts.items ++ indexed_parts l.database.statements l.indices (take l.symbol-index
    l.formula)
