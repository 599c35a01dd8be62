use Rattle.std.proofs.Common.{rules, arith}
use Rattle.mm_nodes.proofs.StoreLaw.{nothing_made}
use Rattle.mm_nodes.proofs.nodes.Nodes.make.Goals as goal

pub returns-then-is_empty-clause-is_made : goal.returns-then-is_empty-clause-is_made
returns-then-is_empty-clause-is_made g c = search (rules, arith, nothing_made)
