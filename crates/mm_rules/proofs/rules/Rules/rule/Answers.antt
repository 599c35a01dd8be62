use Rattle.std.proofs.Common.{arith}
use Rattle.std.proofs.lemmas.Grind.{common_steps}
use Rattle.std.proofs.lemmas.List.Elements.{All-get_or}
use Rattle.mm_rules.specs.Rules.{HasRule}
use Rattle.mm_rules.proofs.rules.Rules.rule.Goals as goal

pub returns-clause-is_compiled : goal.returns-clause-is_compiled
returns-clause-is_compiled g c =
    let are_rules = rw (← c.self.view_is) at c.requires.are_rules in
    let index_lt = rw (← c.self.view_is) at c.requires.index_lt_count in
    let has_rule = rw (← c.index-ranges.ensures) at (All-get_or
    (HasRule c.args._database.now.statements _) _ c.args.rule_index c.index-ranges.result.now
    index_lt are_rules) in
    rw (
      c.elements.ensures,
      c.deref.ensures.value,
      c.elements-2.ensures,
      c.deref-2.ensures.value,
      c.elements-3.ensures,
      c.deref-3.ensures.value,
      c.elements-4.ensures,
      c.deref-4.ensures.value,
    ) has_rule.is_compiled

pub returns-clause-assertion_is : goal.returns-clause-assertion_is
returns-clause-assertion_is g c = grind (arith, common_steps)
