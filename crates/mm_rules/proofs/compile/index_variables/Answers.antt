use Rattle.std.proofs.Common.{arith}
use Rattle.std.proofs.lemmas.Grind.{common_steps}
use Rattle.mm_rules.proofs.compile.index_variables.Goals as goal

pub loop-j-preserved-in-Some : goal.loop-j-preserved-in-Some
loop-j-preserved-in-Some g c = grind (arith, common_steps)

pub loop-j-preserved : goal.loop-j-preserved
loop-j-preserved g c = grind (arith, common_steps)
