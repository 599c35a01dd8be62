use Rattle.std.proofs.Common.{sym, ap, subst}
use Rattle.mm_spec.specs.Frame.{formula_at}
use Rattle.mm_check.specs.Checker.{CheckerState, checker_state, IsAtTheorem}
use Rattle.mm_check.proofs.KeptLaw.{at_theorem_with_stack, whole_if_pushed}
use Rattle.mm_check.proofs.checker.Checker.push.Goals.{in-Ok, in-Err}
use Rattle.mm_check.proofs.checker.Checker.push.Goals as goal

pub returns-then-formula-ge-LONG_FORMULA-clause-is_whole :
    goal.returns-then-formula-ge-LONG_FORMULA-clause-is_whole
returns-then-formula-ge-LONG_FORMULA-clause-is_whole g c =
    whole_if_pushed c.push_long.result c.args.self.now c.push_long.new.self
    (formula_at c.args.database.now.statements c.args.hypothesis) c.push_long.ensures.pushes_formula

pub returns-clause-at_theorem : goal.returns-clause-at_theorem
returns-clause-at_theorem g c =
    let db = c.args.database.now.statements in
    let t = c.args.theorem in
    let i = c.self.inside in
    let before = checker_state i.machine i.rules.now i.noted i.cache i.kept in
    let at_theorem : IsAtTheorem db t before =
    subst (λ (s : CheckerState). IsAtTheorem db t s) (sym c.self.view_is) c.requires.at_theorem in
    elim c.match-push.branch [
      | in-Ok w ↦ let state_is = w.in-Ok.ensures.pushes_formula in
          rw w.result-is (at_theorem_with_stack db t before at_theorem c.push.new.self i.noted
          i.cache (ap (λ s. s.marks) state_is) (ap (λ s. s.formulas) state_is)
          (ap (λ s. s.variable_flags) state_is) at_theorem.pairs_are_disjoint)
      | in-Err w ↦ rw w.result-is tt
    ]
