use Rattle.std.proofs.Common.{arith}
use Rattle.std.proofs.lemmas.Grind.{common_steps}
use Rattle.mm_rules.proofs.compile.is_first_floating.Goals as goal

pub returns-then-is_variable : goal.returns-then-is_variable
returns-then-is_variable g c = grind (arith, common_steps)
