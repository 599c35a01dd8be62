use Rattle.std.proofs.Common.{arith}
use Rattle.mm_nodes.proofs.ReachedLaw.{few_reached}
use Rattle.mm_nodes.proofs.reached.Reached.len.Goals as goal

pub returns-clause-le_count : goal.returns-clause-le_count
returns-clause-le_count g c =
    let few = few_reached c.self.inside.nodes.items c.self.inside.slots.items c.self.invariant
    c.args._count (rw c.self.view_is c.requires) in
    omega (arith, few, c.len.ensures, c.self.inside.nodes.ok.0)
