use Rattle.std.proofs.Common.{sym, ap, arith, length}
use Rattle.mm_nodes.specs.Store.{nodes_of}
use Rattle.mm_nodes.proofs.StoreLaw.{no_string, length_nodes}
use Rattle.mm_nodes.proofs.walk.length_of.Goals as goal

pub returns-else-index-heads : goal.returns-else-index-heads
returns-else-index-heads c =
    let count = length_nodes c.args._bodies.now c.args.heads.now in
    sym (ap length (no_string (nodes_of c.args._bodies.now c.args.heads.now) c.args.body
    c.in-Some.index c.in-Some.ensures.is_node (omega (arith, count))))
