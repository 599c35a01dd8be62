use Rattle.std.proofs.Common.{arith}
use Rattle.std.proofs.lemmas.Grind.{common_steps}
use Rattle.std.proofs.lemmas.Bool.Decides.{nat_tests}
use Rattle.std.proofs.lemmas.List.{take_all}
use Rattle.mm_rules.proofs.RuleLaw.{map_more_after}
use Rattle.mm_rules.proofs.compile.compile_formula.Goals as goal

pub loop-symbol-preserved : goal.loop-symbol-preserved
loop-symbol-preserved g c = grind (arith, common_steps, map_more_after)

pub returns : goal.returns
returns g c = grind (arith, nat_tests, take_all, c.loop-symbol.invariant, c.loop-symbol-test.false)
