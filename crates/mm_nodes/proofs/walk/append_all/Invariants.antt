use Rattle.std.proofs.Common.{◌≡◌, ◌++◌, List, ℕ}
use Rattle.mm_nodes.specs.Store.{segment_string}
use Rattle.mm_nodes.proofs.WalkLaw.{Reads, work}
use Rattle.mm_nodes.proofs.walk.append_all.Given as goal

abbrev pub invariant-loop-rest : goal.invariant-loop-rest
invariant-loop-rest g l = record {
  reads : (common : List ℕ)
      × Reads l.bodies l.heads (segment_string l.bodies l.heads l.fn.all) common l.rest
      l.later.items
      × (l.list.items ≡ l.fn.list.items ++ common);
}

abbrev pub decreases-loop-rest : goal.decreases-loop-rest
decreases-loop-rest g l = work l.bodies l.heads l.rest l.later.items
