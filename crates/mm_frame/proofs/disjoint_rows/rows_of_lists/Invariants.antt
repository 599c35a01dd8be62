use Rattle.std.proofs.Common.{◌≡◌, ◌&&◌, length, nat_lt}
use Rattle.mm_database.specs.DisjointIndex.{has_narrow_pair}
use Rattle.mm_frame.specs.Rows.{AreAllKnown, AreRowsFor}
use Rattle.mm_frame.proofs.disjoint_rows.rows_of_lists.Given as goal

abbrev pub invariant-loop-high : goal.invariant-loop-high
invariant-loop-high g l = record {
  count : length l.rows.items ≡ length l.lists.items;
  are_known : AreAllKnown l.statements.blocks l.rows.items;
  are_rows : AreRowsFor l.statements.blocks
      (λ x y j. nat_lt y l.high && has_narrow_pair l.statements.list x y j) l.rows.items;
}
