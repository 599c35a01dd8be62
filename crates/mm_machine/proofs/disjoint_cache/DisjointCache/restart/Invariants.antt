use Rattle.mm_machine.specs.DisjointCache.{AreDisjointAt}
use Rattle.mm_machine.proofs.disjoint_cache.DisjointCache.restart.Given as goal

abbrev pub invariant-loop-pair : goal.invariant-loop-pair
invariant-loop-pair g l = AreDisjointAt l.database.statements l.theorem l.self
