use Rattle.std.proofs.Common.{arith}
use Rattle.std.proofs.lemmas.Grind.{common_steps}
use Rattle.mm_nodes.proofs.body_list.make_room.Goals as goal

pub returns-else-least-len-clause-bodies_stay : goal.returns-else-least-len-clause-bodies_stay
returns-else-least-len-clause-bodies_stay g c = grind (arith, common_steps)
