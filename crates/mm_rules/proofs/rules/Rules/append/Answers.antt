use Rattle.mm_rules.proofs.rules.Rules.append.Goals.{then-fits+in_ok-add, else-fits}
use Rattle.mm_rules.proofs.rules.Rules.append.Goals as goal

pub loop-rule_index-preserved : goal.loop-rule_index-preserved
loop-rule_index-preserved g c =
    elim c.if-fits.branch [
      | then-fits+in_ok-add w ↦
          rw w.self-is (w.in_ok-add.ensures c.args.database.now.statements
          c.loop-rule_index.invariant c.rule-rule.ensures.is_compiled)
      | else-fits w ↦ rw w.self-is c.loop-rule_index.invariant
    ]
