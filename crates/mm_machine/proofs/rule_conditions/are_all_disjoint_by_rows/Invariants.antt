use Rattle.std.proofs.Common.{◌≡◌, take, true}
use Rattle.mm_spec.specs.Derivation.{are_all_disjoint}
use Rattle.mm_spec.specs.Citation.{context_at}
use Rattle.mm_machine.specs.DisjointCache.{AreDisjointAt}
use Rattle.mm_machine.specs.FlagRows.{AreColumnsOf}
use Rattle.mm_machine.proofs.rule_conditions.are_all_disjoint_by_rows.Given as goal

abbrev pub invariant-loop-symbol : goal.invariant-loop-symbol
invariant-loop-symbol g l = record {
  so_far : are_all_disjoint (context_at l.database.statements l.theorem)
      (take l.symbol-index l.first) l.second ≡ true;
  cache : AreDisjointAt l.database.statements l.theorem l.cache;
  are_columns : AreColumnsOf l.cache.rows.symbols l.columns.items l.second;
}
