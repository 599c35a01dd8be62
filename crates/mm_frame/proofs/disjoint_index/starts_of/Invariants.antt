use Rattle.std.proofs.Common.{◌+◌, ◌-◌, length, get_or}
use Rattle.mm_database.proofs.StartsLaw.{StartsTo}
use Rattle.mm_frame.proofs.disjoint_index.starts_of.Given as goal

abbrev pub invariant-loop-index : goal.invariant-loop-index
invariant-loop-index g l = StartsTo l.by_symbol l.index l.starts.items

abbrev pub invariant-loop-starts : goal.invariant-loop-starts
invariant-loop-starts g l = StartsTo l.by_symbol l.index l.starts.items

abbrev pub decreases-loop-starts : goal.decreases-loop-starts
decreases-loop-starts g l = (get_or l.by_symbol l.index (0, 0)).0 + 1 - length l.starts.items
