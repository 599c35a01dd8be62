use Rattle.std.proofs.Common.{◌≤◌, length}
use Rattle.mm_database.proofs.DisjointIndexLaw.{AddsFromEnd}
use Rattle.mm_database.proofs.disjoint_index.append_active_wide.Given as goal

abbrev pub invariant-loop-by_symbol : goal.invariant-loop-by_symbol
invariant-loop-by_symbol g l =
    (l.end ≤ length l.disjoint_index.by_symbol)
    × AddsFromEnd l.blocks
    l.disjoint_index.by_symbol
    l.fn.symbol l.fn.at l.initial.end l.end l.initial.by_statement.items l.by_statement.items

abbrev pub decreases-loop-by_symbol : goal.decreases-loop-by_symbol
decreases-loop-by_symbol g l = l.end
