use Rattle.std.proofs.Common.{length, ◌-◌}
use Rattle.mm_nodes.specs.Store.{nodes_of}
use Rattle.mm_nodes.proofs.ReachedLaw.{HasWalked}
use Rattle.mm_nodes.proofs.reached.list_symbols.Given as goal

abbrev pub invariant-loop-index : goal.invariant-loop-index
invariant-loop-index g l = HasWalked (nodes_of l.bodies l.heads) l.fn.node l.index l.reached
    l.list.items

abbrev pub decreases-loop-index : goal.decreases-loop-index
decreases-loop-index g l = length l.heads - l.index
