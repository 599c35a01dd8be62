use Rattle.std.proofs.Common.{◌≡◌, take, true}
use Rattle.mm_spec.specs.Derivation.{is_disjoint_from}
use Rattle.mm_spec.specs.Citation.{context_at}
use Rattle.mm_machine.specs.DisjointCache.{AreDisjointAt}
use Rattle.mm_machine.proofs.rule_conditions.is_disjoint_from.Given as goal

abbrev pub invariant-loop-other : goal.invariant-loop-other
invariant-loop-other g l = record {
  so_far : is_disjoint_from (context_at l.database.statements l.theorem) l.symbol
      (take l.other-index l.others) ≡ true;
  cache : AreDisjointAt l.database.statements l.theorem l.cache;
  rows_stay : l.cache.rows ≡ l.initial.cache.rows;
}
