use Rattle.std.proofs.Common.{arith}
use Rattle.std.proofs.lemmas.Grind.{common_steps}
use Rattle.mm_nodes.proofs.body_list.BodyList.truncate.Goals as goal

pub returns-then-count-self : goal.returns-then-count-self
returns-then-count-self g c = grind (arith, common_steps)

pub returns-else-count-self : goal.returns-else-count-self
returns-else-count-self g c = grind (arith, common_steps)
