use Rattle.std.proofs.Common.{vec_len, All}
use Rattle.std.specs.Prelude.{IfOk}
use Rattle.mm_rules.specs.Rules.{AreRules}
use Rattle.mm_rules.proofs.stretches.joined_rules.Given as goal

abbrev pub invariant-joining : goal.invariant-joining
invariant-joining g l = record {
  rules : AreRules l.database.statements l.rules;
  unjoined : All (λ r. IfOk r (AreRules l.database.statements)) l.unjoined.items;
}

abbrev pub decreases-joining : goal.decreases-joining
decreases-joining g l = vec_len l.unjoined
