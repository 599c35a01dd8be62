use Rattle.mm_check.specs.Checker.{HasPerformed}
use Rattle.mm_check.proofs.checker.Checker.run.Given as goal

abbrev pub invariant-loop-i : goal.invariant-loop-i
invariant-loop-i g l = HasPerformed l.database.statements l.theorem l.steps.steps l.i l.self
