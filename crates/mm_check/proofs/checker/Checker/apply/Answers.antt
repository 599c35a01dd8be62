use Rattle.std.proofs.Common.{rules, arith, ◌≡◌, Ok, subst, sym}
use Rattle.std.proofs.lemmas.Result.{err_from_is_err_and}
use Rattle.mm_machine.specs.State.{applied}
use Rattle.mm_machine.specs.Applied.{IsStepRefusalOf}
use Rattle.mm_check.specs.Checker.{CheckerState, checker_state, IsAtTheorem}
use Rattle.mm_check.proofs.KeptLaw.{at_theorem_with_stack}
use Rattle.mm_check.proofs.StepLaw.{applied_step_performs, refusal_is_of_step}
use Rattle.mm_check.proofs.checker.Checker.apply.Goals.{in-Ok-add, in-Err-add}
use Rattle.mm_check.proofs.checker.Checker.apply.Goals as goal

pub held_or_compiled-rule-requires-clause-are_rules :
    goal.held_or_compiled-rule-requires-clause-are_rules
held_or_compiled-rule-requires-clause-are_rules g c = search (rules, arith)

pub returns-in_err-apply-clause-refusal_is_right : goal.returns-in_err-apply-clause-refusal_is_right
returns-in_err-apply-clause-refusal_is_right g c =
    let db = c.args.database.now.statements in
    let t = c.args.theorem in
    let i = c.self.inside in
    let e = c.in_err-apply.field-0.0 in
    let refusal_is = err_from_is_err_and c.from_residual.result c.from_residual.ensures.1 in
    rw (refusal_is.1, refusal_is.2, ← c.self.view_is) (refusal_is_of_step db t
    (checker_state i.machine i.rules.now i.noted i.cache i.kept) c.args.assertion
    c.requires.rule_is_complete c.requires.is_assertion e (subst (λ a. IsStepRefusalOf e
    (applied db t a i.machine.stack)) c.held_or_compiled-rule.ensures.assertion_is
    c.in_err-apply.ensures.is_applied.refusal_is_right))

pub returns-clause-at_theorem : goal.returns-clause-at_theorem
returns-clause-at_theorem g c =
    let db = c.args.database.now.statements in
    let t = c.args.theorem in
    let i = c.self.inside in
    let before = checker_state i.machine i.rules.now i.noted i.cache i.kept in
    let at_theorem : IsAtTheorem db t before =
    subst (λ (s : CheckerState). IsAtTheorem db t s) (sym c.self.view_is) c.requires.at_theorem in
    let applied_step = c.in_ok-apply.ensures.is_applied.leads_if_ok in
    elim c.match-add.branch [
      | in-Ok-add w ↦ rw w.result-is (at_theorem_with_stack db t before at_theorem
          c.apply.new.self c.add.new.self c.apply.new.cache applied_step.marks_stay
          applied_step.formulas_stay c.apply.ensures.is_applied.variables_stay
          c.apply.ensures.cached_are_disjoint)
      | in-Err-add w ↦ rw w.result-is tt
    ]

pub returns-clause-performs : goal.returns-clause-performs
returns-clause-performs g c =
    let db = c.args.database.now.statements in
    let t = c.args.theorem in
    let applied_step = c.in_ok-apply.ensures.is_applied.leads_if_ok in
    elim c.match-add.branch [
      | in-Ok-add w ↦ rw (w.result-is, ← c.self.view_is)
          (applied_step_performs db t _ c.args.assertion c.requires.rule_is_complete
          c.requires.is_assertion c.apply.new.self c.add.new.self c.apply.new.cache
          (subst (λ a. applied db t a c.self.inside.machine.stack ≡ Ok c.apply.new.self.stack)
          c.held_or_compiled-rule.ensures.assertion_is applied_step.entries_are)
          applied_step.marks_stay applied_step.formulas_stay applied_step.has_entry
          w.in-Ok-add.ensures)
      | in-Err-add w ↦ rw w.result-is tt
    ]
