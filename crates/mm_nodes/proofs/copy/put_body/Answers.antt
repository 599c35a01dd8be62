use Rattle.std.proofs.Common.{arith}
use Rattle.std.proofs.lemmas.Grind.{common_steps}
use Rattle.mm_nodes.proofs.copy.put_body.Goals as goal

pub returns-clause-is_written : goal.returns-clause-is_written
returns-clause-is_written c = grind (arith, common_steps)
