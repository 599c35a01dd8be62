use Rattle.std.proofs.Common.{◌≡◌, take, true}
use Rattle.std.specs.List.{list_all}
use Rattle.mm_machine.specs.DisjointCache.{AreDisjointAt}
use Rattle.mm_machine.specs.Distinct.{are_strings_disjoint}
use Rattle.mm_machine.proofs.rule_conditions.pairs_are_disjoint.Given as goal

abbrev pub invariant-loop-index : goal.invariant-loop-index
invariant-loop-index g l = record {
  so_far : list_all (are_strings_disjoint l.database.statements l.theorem l._nodes)
      (take l.index l.asked) ≡ true;
  cache : AreDisjointAt l.database.statements l.theorem l.cache;
}
