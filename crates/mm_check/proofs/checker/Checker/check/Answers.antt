use Rattle.std.proofs.Common.{rules, arith}
use Rattle.mm_spec.proofs.GoodStepsLaw.{faultless_steps_are_good}
use Rattle.mm_check.proofs.checker.Checker.check.Goals as goal

pub run-requires-clause-are_steps : goal.run-requires-clause-are_steps
run-requires-clause-are_steps g c = search (rules, arith, faultless_steps_are_good)
