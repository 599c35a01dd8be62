use Rattle.std.proofs.Common.{◌≡◌, take, true}
use Rattle.std.specs.List.{list_all}
use Rattle.mm_machine.specs.DisjointCache.{AreDisjointAt}
use Rattle.mm_machine.specs.Distinct.{are_bodies_disjoint}
use Rattle.mm_machine.proofs.rule_conditions.keeps_disjoint.Given as goal

abbrev pub invariant-loop-pair : goal.invariant-loop-pair
invariant-loop-pair g l = record {
  nodes_stay : l.nodes ≡ l.fn.nodes;
  so_far : list_all (are_bodies_disjoint l.database.statements l.theorem l.fn.nodes l.premises)
      (take l.pair-index l.pairs) ≡ true;
  cache : AreDisjointAt l.database.statements l.theorem l.cache;
}
