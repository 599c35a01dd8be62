use Rattle.std.proofs.Common.{◌≡◌, ◌∙◌, ◌==◌, ◌||◌, ℕ, subst, sym, ap, refl}
use Rattle.std.proofs.lemmas.Result.{err_from_is_err_and}
use Rattle.mm_spec.specs.Derivation.{is_member}
use Rattle.mm_spec.specs.Frame.{formula_at}
use Rattle.mm_spec.specs.Steps.{label}
use Rattle.mm_spec.specs.Laws.Stack.{top}
use Rattle.mm_spec.proofs.StepsLaw.{top_of_appended}
use Rattle.mm_check.specs.Checker.{CheckerState, checker_state, with_formula, Performs}
use Rattle.mm_check.proofs.StepLaw.{applied_step_performs, alone_is_applied}
use Rattle.mm_check.proofs.StepLaw.{push_refusal_is_of_step, length_push_is_positive}
use Rattle.mm_check.proofs.checker.Checker.apply_long.Goals.{in-Ok, in-Err}
use Rattle.mm_check.proofs.checker.Checker.apply_long.Goals as goal

pub returns-in_err-is_new-clause-refusal_is_right :
    goal.returns-in_err-is_new-clause-refusal_is_right
returns-in_err-is_new-clause-refusal_is_right g c =
    let (rule, is_rule, no_hypotheses) = c.requires.no_hypotheses in
    let refusal_is = err_from_is_err_and c.from_residual.result c.from_residual.ensures.1 in
    rw (refusal_is.1, refusal_is.2) (push_refusal_is_of_step c.args.database.now.statements
    c.args.theorem c.args.self.now c.args.assertion c.requires.rule_is_complete
    c.requires.is_assertion rule is_rule no_hypotheses c.in_err-is_new.field-0.0
    c.in_err-is_new.ensures.refusal_is_right)

pub returns-clause-performs : goal.returns-clause-performs
returns-clause-performs g c =
    let db = c.args.database.now.statements in
    let t = c.args.theorem in
    let a = c.args.assertion in
    let old = c.args.self.now in
    let f = formula_at db a in
    let (rule, is_rule, no_hypotheses) = c.requires.no_hypotheses in
    let state_is = c.self.view_is ∙ c.in_ok-is_new.ensures.pushes_formula in
    elim c.match-add.branch [
      | in-Ok w ↦ rw w.result-is (subst (λ (s : CheckerState). Performs db t (label a) old
          (checker_state s.machine s.rules c.add.new.self s.cache s.kept)) (sym state_is)
          (applied_step_performs db t old a c.requires.rule_is_complete c.requires.is_assertion
          (with_formula f old).machine c.add.new.self old.cache
          (alone_is_applied db t old a c.requires.rule_is_complete c.requires.is_assertion rule
          is_rule no_hypotheses c.in_ok-is_new.ensures.length_le_limit) refl refl
          (length_push_is_positive db t old.machine.stack f)
          (subst (λ (s : CheckerState). (x : ℕ)
          → is_member c.add.new.self x ≡ (is_member s.noted x || (x == a))) state_is
          w.in-Ok.ensures)))
      | in-Err w ↦ rw w.result-is tt
    ]

pub returns-clause-is_whole : goal.returns-clause-is_whole
returns-clause-is_whole g c =
    let state_is = c.self.view_is ∙ c.in_ok-is_new.ensures.pushes_formula in
    elim c.match-add.branch [
      | in-Ok w ↦ rw w.result-is (λ is_true. ap (λ (s : CheckerState). top s.machine.stack) state_is
          ∙ top_of_appended c.args.self.now.machine.stack
          (formula_at c.args.database.now.statements c.args.assertion))
      | in-Err w ↦ rw w.result-is tt
    ]
