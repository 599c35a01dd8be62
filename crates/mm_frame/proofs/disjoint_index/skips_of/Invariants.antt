use Rattle.std.proofs.Common.{◌≡◌, ℕ, ◌<◌, ◌≤◌, length, get_or}
use Rattle.mm_database.specs.DisjointIndex.{Covers}
use Rattle.mm_frame.proofs.disjoint_index.skips_of.Given as goal

abbrev pub invariant-loop-index : goal.invariant-loop-index
invariant-loop-index g l =
    (length l.skips.items ≡ l.index)
    × ((q : ℕ) → q < l.index
    → (get_or l.skips.items q 0 ≤ q)
    × Covers l.blocks l.by_symbol
    (get_or l.skips.items q 0) q)

abbrev pub invariant-loop-covered_from : goal.invariant-loop-covered_from
invariant-loop-covered_from g l =
    (l.covered_from ≤ l.index)
    × Covers l.blocks l.by_symbol l.covered_from l.index

abbrev pub decreases-loop-covered_from : goal.decreases-loop-covered_from
decreases-loop-covered_from g l = l.covered_from
