use Rattle.std.proofs.Common.{arith}
use Rattle.std.proofs.lemmas.Grind.{common_steps}
use Rattle.mm_nodes.proofs.copy.put_bodies.Goals as goal

pub returns-then-count-eq1-clause-are_written : goal.returns-then-count-eq1-clause-are_written
returns-then-count-eq1-clause-are_written c = grind (arith, common_steps)

pub returns-else-count-eq1-clause-are_written : goal.returns-else-count-eq1-clause-are_written
returns-else-count-eq1-clause-are_written c = grind (arith, common_steps)
