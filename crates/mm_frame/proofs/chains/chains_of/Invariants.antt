use Rattle.std.proofs.Common.{◌≡◌, ◌≤◌, ◌&&◌, length, nat_le, false}
use Rattle.mm_spec.specs.Frame.{symbol_names}
use Rattle.mm_frame.specs.Chains.{AreLinked, AreChains}
use Rattle.mm_database.specs.DisjointIndex.{has_symbol_by_width}
use Rattle.mm_frame.proofs.chains.chains_of.Given as goal

abbrev pub invariant-loop-statement : goal.invariant-loop-statement
invariant-loop-statement g l = record {
  statement_le_length : l.statement ≤ length l.statements.list;
  count : length l.chains.heads.items ≡ length (symbol_names l.statements.list);
  linked : AreLinked l.chains.heads.items l.chains.links.items;
  chains : AreChains (λ x j. nat_le l.statement j && has_symbol_by_width l.statements.list false
      x j) l.statement
      l.chains.heads.items l.chains.links.items;
}

abbrev pub decreases-loop-statement : goal.decreases-loop-statement
decreases-loop-statement g l = l.statement
