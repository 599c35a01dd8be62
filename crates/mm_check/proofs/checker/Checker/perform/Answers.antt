use Rattle.std.proofs.Common.{sym, ap, subst}
use Rattle.mm_check.specs.Checker.{CheckerState, checker_state, IsAtTheorem}
use Rattle.mm_check.proofs.KeptLaw.{at_theorem_with_stack}
use Rattle.mm_check.proofs.StepLaw.{repeated_step_performs}
use Rattle.mm_check.proofs.checker.Checker.perform.Goals.{in-Ok, in-Err}
use Rattle.mm_check.proofs.checker.Checker.perform.Goals as goal

pub returns-after-repeat-clause-performs : goal.returns-after-repeat-clause-performs
returns-after-repeat-clause-performs g c =
    elim c.match-repeat.branch [
      | in-Ok w ↦ let repeats = w.in-Ok.ensures.repeats_step in
          rw (w.result-is, c.in-Marked.is, ← c.self.view_is) (repeated_step_performs
          c.args.database.now.statements c.args.theorem _ c.in-Marked.earlier repeats.0
          c.repeat.new.self repeats.2 repeats.3 repeats.4)
      | in-Err w ↦ rw w.result-is tt
    ]

pub returns-after-repeat-clause-at_theorem : goal.returns-after-repeat-clause-at_theorem
returns-after-repeat-clause-at_theorem g c =
    let db = c.args.database.now.statements in
    let t = c.args.theorem in
    let i = c.self.inside in
    let before = checker_state i.machine i.rules.now i.noted i.cache i.kept in
    elim c.match-repeat.branch [
      | in-Ok w ↦ let state_is = w.in-Ok.ensures.repeats_step.4 in
          rw w.result-is (at_theorem_with_stack db t before
          (subst (λ (s : CheckerState). IsAtTheorem db t s) (sym c.self.view_is)
          c.requires.at_theorem) c.repeat.new.self i.noted i.cache (ap (λ s. s.marks) state_is)
          (ap (λ s. s.formulas) state_is) (ap (λ s. s.variable_flags) state_is)
          (subst (λ (s : CheckerState). IsAtTheorem db t s) (sym c.self.view_is)
          c.requires.at_theorem).pairs_are_disjoint)
      | in-Err w ↦ rw w.result-is tt
    ]
