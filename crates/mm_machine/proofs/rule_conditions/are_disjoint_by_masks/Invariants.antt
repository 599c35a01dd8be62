use Rattle.std.proofs.Common.{◌<◌, get_or}
use Rattle.mm_machine.specs.declared.owners.TheConstants.{OTHERS}
use Rattle.mm_machine.specs.DisjointCache.{AreDisjointAt}
use Rattle.mm_machine.specs.Masks.{IsDisjointFromMask}
use Rattle.mm_machine.proofs.OwnersLaw.{SoFar}
use Rattle.mm_machine.proofs.rule_conditions.are_disjoint_by_masks.Given as goal

abbrev pub invariant-loop-bit : goal.invariant-loop-bit
invariant-loop-bit g l = record {
  so_far : SoFar (λ i. (i < OTHERS)
      × IsDisjointFromMask l.database.statements l.theorem l.owners (get_or l.owners i 0) l.second)
      l.first l.rest;
  cache : AreDisjointAt l.database.statements l.theorem l.cache;
}
