use Rattle.std.proofs.Common.{arith}
use Rattle.std.proofs.lemmas.Grind.{common_steps}
use Rattle.mm_nodes.proofs.copy.put_all.Goals as goal

pub returns-clause-are_written : goal.returns-clause-are_written
returns-clause-are_written c = grind (arith, common_steps)
