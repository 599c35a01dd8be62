use Rattle.std.proofs.Common.{rules, List, ℕ, All, Ok, sym, subst, arith}
use Rattle.std.proofs.lemmas.Grind.{common_steps}
use Rattle.mm_machine.specs.declared.entry.Entry.{Entry}
use Rattle.mm_machine.specs.Applied.{TestsRule, IsStepRefusalOf}
use Rattle.mm_machine.specs.State.{applied}
use Rattle.mm_machine.specs.Entries.{entry_formulas}
use Rattle.mm_machine.proofs.StackLaw.{extends_unchanged, extends_fewer}
use Rattle.mm_machine.proofs.StepLaw.{step_if_ok, step_has_entry, step_refusal_is_right}
use Rattle.mm_machine.proofs.StepLaw.{step_in_range}
use Rattle.mm_machine.specs.Masks.{IsNoVariable, AreAllMasked, entry_masks}
use Rattle.mm_machine.proofs.OwnersLaw.{rule_has_no_variables}
use Rattle.mm_machine.proofs.rule_step.apply_rule.Goals as goal

pub returns-in_err-make_room-clause-nodes_are_kept :
    goal.returns-in_err-make_room-clause-nodes_are_kept
returns-in_err-make_room-clause-nodes_are_kept g c = grind (arith, common_steps, extends_unchanged)

pub returns-in-Err-clause-nodes_are_kept : goal.returns-in-Err-clause-nodes_are_kept
returns-in-Err-clause-nodes_are_kept g c = search (rules, arith, extends_unchanged)

pub returns-in-Err-clause-refusal_is_right : goal.returns-in-Err-clause-refusal_is_right
returns-in-Err-clause-refusal_is_right g c =
    subst (λ (es : List Entry). IsStepRefusalOf c.in-Err.refused (applied
    c.args.database.now.statements c.args.theorem c.args.rule.now.assertion (entry_formulas
    c.args.nodes.now es))) c.deref.ensures.value c.in-Err.ensures.tests_rule

pub returns-in-Ok-clause-entries_are : goal.returns-in-Ok-clause-entries_are
returns-in-Ok-clause-entries_are g c =
    let db = c.args.database.now.statements in
    step_if_ok db c.args.theorem c.args.rule.now c.args.nodes.now c.test_rule.new.nodes
    c.args.stack.now.items c.in-Ok.below c.formula-formula.result.now
    c.test_rule.ensures.nodes_unchanged c.formula-formula.ensures (subst (λ (es : List Entry).
    TestsRule db c.args.theorem c.args.rule.now c.args.nodes.now es (Ok c.in-Ok.below))
    c.deref.ensures.value c.in-Ok.ensures.tests_rule) c.replace_by_formula.result
    c.replace_by_formula.new.nodes c.replace_by_formula.new.stack.items
    c.replace_by_formula.ensures.entries_are

pub returns-in-Ok-clause-has_entry : goal.returns-in-Ok-clause-has_entry
returns-in-Ok-clause-has_entry g c = grind (arith, common_steps, step_has_entry)

pub returns-in-Ok-clause-refusal_is_right : goal.returns-in-Ok-clause-refusal_is_right
returns-in-Ok-clause-refusal_is_right g c =
    let db = c.args.database.now.statements in
    step_refusal_is_right db c.args.theorem c.args.rule.now c.args.nodes.now c.test_rule.new.nodes
    c.args.stack.now.items c.in-Ok.below c.formula-formula.result.now
    c.test_rule.ensures.nodes_unchanged c.formula-formula.ensures (subst (λ (es : List Entry).
    TestsRule db c.args.theorem c.args.rule.now c.args.nodes.now es (Ok c.in-Ok.below))
    c.deref.ensures.value c.in-Ok.ensures.tests_rule) c.replace_by_formula.result
    c.replace_by_formula.new.nodes c.replace_by_formula.new.stack.items
    c.replace_by_formula.ensures.refusal_is_right

pub returns-in-Ok-clause-formulas_in_range : goal.returns-in-Ok-clause-formulas_in_range
returns-in-Ok-clause-formulas_in_range g c =
    let db = c.args.database.now.statements in
    step_in_range db c.args.theorem c.args.rule.now c.args.nodes.now c.test_rule.new.nodes
    c.args.stack.now.items c.in-Ok.below c.formula-formula.result.now
    c.test_rule.ensures.nodes_unchanged c.formula-formula.ensures (subst (λ (es : List Entry).
    TestsRule db c.args.theorem c.args.rule.now c.args.nodes.now es (Ok c.in-Ok.below))
    c.deref.ensures.value c.in-Ok.ensures.tests_rule) c.replace_by_formula.result
    c.replace_by_formula.new.nodes c.replace_by_formula.new.stack.items c.requires.is_compiled
    c.requires.formulas_in_range c.replace_by_formula.ensures.entries_are
    c.replace_by_formula.ensures.stay_in_range

pub returns-in-Ok-clause-nodes_are_kept : goal.returns-in-Ok-clause-nodes_are_kept
returns-in-Ok-clause-nodes_are_kept g c = search (rules, arith, extends_fewer)

pub returns-in-Ok-clause-are_masked : goal.returns-in-Ok-clause-are_masked
returns-in-Ok-clause-are_masked g c =
    let vs = c.args.owners.now.variable_flags in
    let owners = c.args.owners.now.symbols in
    let es = c.args.stack.now.items in
    c.replace_by_formula.ensures.stay_masked.stay vs owners (subst (All (IsNoVariable vs))
    (sym c.formula-formula.ensures) (rule_has_no_variables c.args.database.now.statements vs
    c.args.rule.now c.requires.are_variables c.requires.is_compiled))
    (subst (λ (ns : List (List ℕ)). AreAllMasked vs owners (entry_masks es) (entry_formulas ns es))
    (sym c.test_rule.ensures.nodes_unchanged) c.requires.are_masked)
