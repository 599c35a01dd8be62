use Rattle.std.proofs.Common.{◌-◌, ◌<◌}
use Rattle.mm_nodes.specs.Store.{AreSame}
use Rattle.mm_nodes.proofs.walk.first_difference.Given as goal

abbrev pub invariant-loop-left : goal.invariant-loop-left
invariant-loop-left l = record {
  same_lt : l.same < l.both;
  are_same : AreSame l.bodies l.left.start l.right.start l.same;
}

abbrev pub decreases-loop-left : goal.decreases-loop-left
decreases-loop-left l = l.both - l.same
