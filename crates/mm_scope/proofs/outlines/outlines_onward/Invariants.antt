use Rattle.std.proofs.Common.{◌≤◌, ◌-◌, length}
use Rattle.mm_scope.specs.Outlines.{AreOutlinesBetween}
use Rattle.mm_scope.proofs.outlines.outlines_onward.Given as goal

abbrev pub invariant-statements : goal.invariant-statements
invariant-statements g l = record {
  depth_le_index : l.depth ≤ l.token_index;
  index_le_count : l.token_index ≤ length l.tokens;
  are_found : AreOutlinesBetween l.text l.tokens 0 0 l.outlines.items l.depth l.token_index;
}

abbrev pub decreases-statements : goal.decreases-statements
decreases-statements g l = length l.tokens - l.token_index
