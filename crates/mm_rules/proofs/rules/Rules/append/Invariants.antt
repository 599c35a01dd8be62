use Rattle.mm_rules.specs.Rules.{AreRules}
use Rattle.mm_rules.proofs.rules.Rules.append.Given as goal

abbrev pub invariant-loop-rule_index : goal.invariant-loop-rule_index
invariant-loop-rule_index g l = AreRules l.database.statements l.self
