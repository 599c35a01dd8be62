use Rattle.std.proofs.Common.{◌+◌, ◌≤◌, length}
use Rattle.mm_database.proofs.DisjointIndexLaw.{NoneInCommon}
use Rattle.mm_database.proofs.disjoint_index.are_together.Given as goal

abbrev pub invariant-loop-by_symbol : goal.invariant-loop-by_symbol
invariant-loop-by_symbol g l = record {
  x_end_falls : l.x_end ≤ l.initial.x_end;
  y_end_falls : l.y_end ≤ l.initial.y_end;
  x_end_within : l.x_end ≤ length l.disjoint_index.by_symbol;
  y_end_within : l.y_end ≤ length l.disjoint_index.by_symbol;
  none_in_common : NoneInCommon l.blocks l.disjoint_index.by_symbol l.fn.x l.fn.y l.fn.at l.x_end
      l.y_end;
}

abbrev pub decreases-loop-by_symbol : goal.decreases-loop-by_symbol
decreases-loop-by_symbol g l = l.x_end + l.y_end
