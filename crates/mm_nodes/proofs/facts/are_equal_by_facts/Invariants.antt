use Rattle.mm_nodes.specs.Strings.{string_of}
use Rattle.mm_nodes.specs.Store.{nodes_of, segment_string}
use Rattle.mm_nodes.specs.Overlaps.{Agree}
use Rattle.mm_nodes.proofs.OverlapLaw.{ComesToPending}
use Rattle.mm_nodes.proofs.facts.are_equal_by_facts.Given as goal

abbrev pub invariant-loop-overlap : goal.invariant-loop-overlap
invariant-loop-overlap g l = record {
  comes : ComesToPending (nodes_of l.bodies l.heads)
      (Agree (segment_string l.bodies l.heads l.fn.parts) 0
      (string_of (nodes_of l.bodies l.heads) l.fn.body) 0) l.pending.items l.seen;
}

abbrev pub decreases-loop-overlap : goal.decreases-loop-overlap
decreases-loop-overlap g l = l.left
