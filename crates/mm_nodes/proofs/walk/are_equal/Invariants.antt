use Rattle.std.proofs.Common.{◌+◌}
use Rattle.mm_nodes.specs.Store.{segment_string}
use Rattle.mm_nodes.proofs.WalkLaw.{ReadAlike, work}
use Rattle.mm_nodes.proofs.walk.are_equal.Given as goal

abbrev pub invariant-loop-left : goal.invariant-loop-left
invariant-loop-left g l = record {
  reads : ReadAlike l.bodies l.heads (segment_string l.bodies l.heads l.fn.first)
      (segment_string l.bodies l.heads l.fn.second) l.left l.left_later.items l.right
      l.right_later.items;
}

abbrev pub decreases-loop-left : goal.decreases-loop-left
decreases-loop-left g l =
    work l.bodies l.heads l.left l.left_later.items
    + work l.bodies l.heads l.right l.right_later.items
