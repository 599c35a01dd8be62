use Rattle.std.proofs.Common.{◌≡◌, sym, subst, length}
use Rattle.mm_steps.specs.TheoremSteps.{as_step}
use Rattle.mm_check.specs.Checker.{CheckerState, checker_state, IsAtTheorem, IsPushedWhole}
use Rattle.mm_check.proofs.KeptLaw.{at_theorem_and_kept}
use Rattle.mm_check.proofs.checker.Checker.mark_and_keep.Goals as goal

pub returns-in_ok-add-clause-at_theorem : goal.returns-in_ok-add-clause-at_theorem
returns-in_ok-add-clause-at_theorem g c =
    let db = c.args.database.now.statements in
    let t = c.args._theorem in
    let i = c.self.inside in
    let before = checker_state i.machine i.rules.now i.noted i.cache i.kept in
    let is_whole : IsPushedWhole db (as_step c.step.result) i.machine.stack =
    subst (λ (s : CheckerState). IsPushedWhole db (as_step c.step.result) s.machine.stack)
    (sym c.self.view_is)
    (subst (λ s. IsPushedWhole db s c.args.self.now.machine.stack) (sym c.step.ensures)
    c.requires.is_whole) in
    at_theorem_and_kept db t before
    (subst (λ (s : CheckerState). IsAtTheorem db t s) (sym c.self.view_is) c.requires.at_theorem)
    c.mark.new.self c.args.i c.in_ok-mark.ensures.marks_step c.in-Label.statement
    c.mark_count-mark.result c.add.new.self c.mark_count-mark.ensures.count_is
    (subst (λ (s : CheckerState). length s.machine.formulas ≡ length s.machine.marks)
    (sym c.self.view_is) c.requires.count_is)
    (subst (λ s. IsPushedWhole db (as_step s) i.machine.stack) c.in-Label.is is_whole)
    c.in_ok-add.ensures
