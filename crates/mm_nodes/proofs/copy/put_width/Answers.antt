use Rattle.std.proofs.Common.{arith}
use Rattle.std.proofs.lemmas.Grind.{common_steps}
use Rattle.mm_nodes.proofs.copy.put_width.Goals as goal

pub returns-then-bodies-eq8-clause-are_written : goal.returns-then-bodies-eq8-clause-are_written
returns-then-bodies-eq8-clause-are_written c = grind (arith, common_steps)
