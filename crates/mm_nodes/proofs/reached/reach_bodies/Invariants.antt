use Rattle.std.proofs.Common.{take}
use Rattle.mm_nodes.specs.Reached.{ReachesBodies}
use Rattle.mm_nodes.proofs.reached.reach_bodies.Given as goal

abbrev pub invariant-loop-body : goal.invariant-loop-body
invariant-loop-body g l = ReachesBodies (take l.body-index l.bodies) l.fn.reached l.fn.list.items
    l.reached l.list.items
