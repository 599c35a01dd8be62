use Rattle.std.proofs.Common.{rules, ◌-◌, true, false, length, slice_range, sym, ap, ◌∙◌, arith}
use Rattle.std.proofs.Common.{refl}
use Rattle.std.proofs.lemmas.List.{take_rest}
use Rattle.std.specs.List.{list_all}
use Rattle.mm_machine.specs.Distinct.{are_bodies_disjoint}
use Rattle.mm_machine.proofs.StepLaw.{premises_are_in_range}
use Rattle.mm_machine.proofs.EntryRuleLaw.{rule_test_by_stack, applied_is_too_few}
use Rattle.mm_machine.proofs.OwnersLaw.{premises_masked}
use Rattle.mm_machine.proofs.rule_conditions.test_rule.Goals as goal

pub returns-then-stack-hypotheses-clause-tests_rule :
    goal.returns-then-stack-hypotheses-clause-tests_rule
returns-then-stack-hypotheses-clause-tests_rule g c =
    search (
      rules,
      arith,
      applied_is_too_few,
      c.requires.is_compiled,
      c.if-stack-hypotheses.true,
      c.hypotheses-hypotheses.ensures,
    )

pub returns-then-not-is_match-clause-tests_rule : goal.returns-then-not-is_match-clause-tests_rule
returns-then-not-is_match-clause-tests_rule g c =
    let stack = c.args.stack.now in
    let n = length c.hypotheses-hypotheses.result.now in
    rule_test_by_stack c.args.database.now.statements c.args.theorem c.args.rule.now
    c.args.nodes.now stack (slice_range stack (length stack - n) (length stack)) n
    (length stack - n) c.requires.is_compiled (ap length c.hypotheses-hypotheses.ensures)
    (omega (arith, c.if-stack-hypotheses.false)) refl (take_rest stack (length stack - n))
    c.requires.are_entries _ refl false _ (sym c.if-not-is_match.true
    ∙ c.in_ok-is_match.ensures.tells_match) refl

pub returns-then-not-is_disjoint-clause-tests_rule :
    goal.returns-then-not-is_disjoint-clause-tests_rule
returns-then-not-is_disjoint-clause-tests_rule g c =
    let stack = c.args.stack.now in
    let n = length c.hypotheses-hypotheses.result.now in
    let premises = slice_range stack (length stack - n) (length stack) in
    rule_test_by_stack c.args.database.now.statements c.args.theorem c.args.rule.now
    c.args.nodes.now stack premises n (length stack - n) c.requires.is_compiled
    (ap length c.hypotheses-hypotheses.ensures) (omega (arith, c.if-stack-hypotheses.false)) refl
    (take_rest stack (length stack - n)) c.requires.are_entries c.pairs-pairs.result.now
    c.pairs-pairs.ensures true false (sym c.if-not-is_match.false
    ∙ c.in_ok-is_match.ensures.tells_match) (sym c.if-not-is_disjoint.true
    ∙ c.in_ok-is_disjoint.ensures.tells_disjoint
    ∙ ap (λ ns. list_all (are_bodies_disjoint c.args.database.now.statements c.args.theorem ns
    premises) c.pairs-pairs.result.now) c.premises_match.ensures.nodes_unchanged)

pub returns-clause-tests_rule : goal.returns-clause-tests_rule
returns-clause-tests_rule g c =
    let stack = c.args.stack.now in
    let n = length c.hypotheses-hypotheses.result.now in
    let premises = slice_range stack (length stack - n) (length stack) in
    let hypotheses_le_stack = c.if-stack-hypotheses.false in (
      (omega (arith, hypotheses_le_stack, ap length c.hypotheses-hypotheses.ensures)),
      rule_test_by_stack c.args.database.now.statements c.args.theorem c.args.rule.now
          c.args.nodes.now stack premises n (length stack - n)
          c.requires.is_compiled
          (ap length c.hypotheses-hypotheses.ensures) (omega (arith, hypotheses_le_stack)) refl
          (take_rest stack (length stack - n)) c.requires.are_entries c.pairs-pairs.result.now
          c.pairs-pairs.ensures true true
          (sym c.if-not-is_match.false ∙ c.in_ok-is_match.ensures.tells_match)
          (sym c.if-not-is_disjoint.false ∙ c.in_ok-is_disjoint.ensures.tells_disjoint
          ∙ ap (λ ns. list_all (are_bodies_disjoint c.args.database.now.statements c.args.theorem ns
          premises) c.pairs-pairs.result.now) c.premises_match.ensures.nodes_unchanged),
    )

pub keeps_disjoint-requires-clause-formulas_in_range :
    goal.keeps_disjoint-requires-clause-formulas_in_range
keeps_disjoint-requires-clause-formulas_in_range g c = search (rules, arith, premises_are_in_range)

pub keeps_disjoint-requires-clause-are_masked : goal.keeps_disjoint-requires-clause-are_masked
keeps_disjoint-requires-clause-are_masked g c = search (rules, arith, premises_masked)
