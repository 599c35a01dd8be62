use Rattle.std.proofs.Common.{◌-◌}
use Rattle.mm_nodes.proofs.OverlapLaw.{PartsBefore}
use Rattle.mm_nodes.proofs.facts.require_parts.Given as goal

abbrev pub invariant-loop-rest : goal.invariant-loop-rest
invariant-loop-rest g l = record {
  parts_before : PartsBefore l.bodies l.heads l.fn.parts l.start l.other l.other_start
      l.fn.pending.items l.pending.items l.fn.seen l.seen l.rest l.at;
}

abbrev pub decreases-loop-rest : goal.decreases-loop-rest
decreases-loop-rest g l = l.rest.end - l.rest.start
