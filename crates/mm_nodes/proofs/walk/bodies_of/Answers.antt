use Rattle.std.proofs.Common.{rules, arith, slice_range}
use Rattle.mm_nodes.proofs.StoreLaw.{node_at}
use Rattle.mm_nodes.proofs.walk.bodies_of.Goals as goal

pub returns : goal.returns
returns c = search (rules, arith, slice_range, node_at)
