use Rattle.std.proofs.Common.{◌≡◌, ◌≤◌, length, drop, map}
use Rattle.mm_spec.specs.Frame.{symbol_names, formula_at}
use Rattle.mm_rule.proofs.FirstFloatLaw.{AreIndicesFrom}
use Rattle.mm_rules.specs.Rules.{AreShortIndices}
use Rattle.mm_rules.proofs.compile.index_variables.Given as goal

abbrev pub invariant-loop-j : goal.invariant-loop-j
invariant-loop-j g l = record {
  j_le_length : l.j ≤ length l.mandatory;
  indices_fit : AreShortIndices l.indices;
  symbol_count_is : length l.indices ≡ length (symbol_names l.database.statements);
  indices_are : AreIndicesFrom l.database.statements l.j
      (map (formula_at l.database.statements) (drop l.j l.mandatory)) l.indices;
}

abbrev pub decreases-loop-j : goal.decreases-loop-j
decreases-loop-j g l = l.j
