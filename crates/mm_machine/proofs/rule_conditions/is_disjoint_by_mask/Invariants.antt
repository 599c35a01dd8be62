use Rattle.std.proofs.Common.{◌≡◌, ◌<◌, get_or, true}
use Rattle.mm_spec.specs.Derivation.{are_disjoint}
use Rattle.mm_spec.specs.Citation.{context_at}
use Rattle.mm_machine.specs.declared.owners.TheConstants.{OTHERS}
use Rattle.mm_machine.specs.DisjointCache.{AreDisjointAt}
use Rattle.mm_machine.proofs.OwnersLaw.{SoFar}
use Rattle.mm_machine.proofs.rule_conditions.is_disjoint_by_mask.Given as goal

abbrev pub invariant-loop-bit : goal.invariant-loop-bit
invariant-loop-bit g l = record {
  so_far : SoFar (λ i. (i < OTHERS)
      × (are_disjoint (context_at l.database.statements l.theorem) l.symbol (get_or l.owners i 0)
      ≡ true))
      l.mask l.rest;
  cache : AreDisjointAt l.database.statements l.theorem l.cache;
}
