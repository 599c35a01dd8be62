use Rattle.std.proofs.Common.{◌≤◌, true, false, refl, sym, ap, ◌∙◌, subst, length, arith}
use Rattle.std.proofs.lemmas.Slice.Zip.{AllZip-long}
use Rattle.mm_steps.specs.TheoremSteps.{as_step}
use Rattle.mm_check.specs.Checker.{CheckerState, checker_state, IsAtTheorem, Performs}
use Rattle.mm_check.proofs.RanLaw.{step_is_ready, refused_step_refuses, has_performed_after_step}
use Rattle.mm_check.proofs.RanLaw.{has_performed_if_marked}
use Rattle.mm_check.proofs.KeptLaw.{at_theorem_with_mark}
use Rattle.mm_check.proofs.checker.Checker.perform_and_mark.Goals as goal

pub perform-requires-clause-step_is_ready : goal.perform-requires-clause-step_is_ready
perform-requires-clause-step_is_ready g c =
    step_is_ready c.args.database.now.statements c.args.theorem c.args.steps.now.steps c.args.i
    c.args.self.now
    c.requires.has_performed c.requires.i_lt_length (as_step c.step.result) c.step.ensures

pub returns-in-Err-clause-refusal_is_right : goal.returns-in-Err-clause-refusal_is_right
returns-in-Err-clause-refusal_is_right g c =
    rw c.refusal.ensures (refused_step_refuses c.args.database.now.statements c.args.theorem
    c.args.steps.now.steps c.args.i c.args.self.now c.requires.has_performed c.requires.i_lt_length
    (as_step c.step.result) c.step.ensures c.place.result c.in-Err.refused c.place.ensures
    c.in-Err.ensures.refusal_is_right)

pub mark_and_keep-requires-clause-count_is : goal.mark_and_keep-requires-clause-count_is
mark_and_keep-requires-clause-count_is g c =
    let performs = c.in-Ok-true.ensures.performs in
    let has_run = c.requires.has_performed.has_run in
    ap length performs.formulas_stay
    ∙ AllZip-long _ c.args.self.now.machine.marks c.args.self.now.machine.formulas
    has_run.marks_agree
    ∙ sym (ap length performs.marks_stay)

pub returns-in-Ok-true-clause-has_performed : goal.returns-in-Ok-true-clause-has_performed
returns-in-Ok-true-clause-has_performed g c =
    has_performed_if_marked c.args.database.now.statements c.args.theorem c.args.steps.now.steps
    c.args.i c.args.self.now c.requires.has_performed c.requires.i_lt_length (as_step c.step.result)
    c.step.ensures c.mark_and_keep.result c.perform.new.self c.mark_and_keep.new.self
    c.in-Ok-true.ensures.performs c.mark_and_keep.ensures.is_marked
    c.mark_and_keep.ensures.noted_stay c.mark_and_keep.ensures.at_theorem

pub returns-in_ok-mark-in-Ok-false-clause-has_performed :
    goal.returns-in_ok-mark-in-Ok-false-clause-has_performed
returns-in_ok-mark-in-Ok-false-clause-has_performed g c =
    let db = c.args.database.now.statements in
    let t = c.args.theorem in
    let a = as_step c.step.result in
    let old = c.args.self.now in
    let i = c.self.inside in
    let before = checker_state i.machine i.rules.now i.noted i.cache i.kept in
    let after = checker_state c.mark.new.self i.rules.now i.noted i.cache i.kept in
    let marks_step = c.in_ok-mark-in-Ok-false.ensures.marks_step in
    let has_run = c.requires.has_performed.has_run in
    let performs : Performs db t a old before =
    subst (λ (s : CheckerState). Performs db t a old s) (sym c.self.view_is)
    c.in-Ok-false.ensures.performs in
    let at_theorem : IsAtTheorem db t before =
    subst (λ (s : CheckerState). IsAtTheorem db t s) (sym c.self.view_is)
    c.in-Ok-false.ensures.at_theorem in
    let enough : length i.machine.marks ≤ length i.machine.formulas =
    omega (
      arith,
      ap length performs.formulas_stay,
      ap length performs.marks_stay,
      AllZip-long _ old.machine.marks old.machine.formulas has_run.marks_agree,
    ) in
    has_performed_after_step db t c.args.steps.now.steps c.args.i old c.requires.has_performed
    c.requires.i_lt_length a c.step.ensures before after true (λ is_marked_i. refl) performs
    marks_step refl (at_theorem_with_mark db t before at_theorem c.mark.new.self c.args.i marks_step
    enough)

pub returns-else-is_marked-clause-has_performed : goal.returns-else-is_marked-clause-has_performed
returns-else-is_marked-clause-has_performed g c =
    has_performed_after_step c.args.database.now.statements c.args.theorem c.args.steps.now.steps
    c.args.i c.args.self.now c.requires.has_performed c.requires.i_lt_length (as_step c.step.result)
    c.step.ensures c.perform.new.self c.perform.new.self false
    (λ is_marked_i. sym c.if-is_marked.false ∙ c.is_marked.ensures ∙ is_marked_i)
    c.in-Ok-false.ensures.performs refl refl c.in-Ok-false.ensures.at_theorem
