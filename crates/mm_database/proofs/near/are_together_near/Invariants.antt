use Rattle.std.proofs.Common.{◌-◌, ◌≤◌}
use Rattle.mm_database.proofs.near.are_together_near.Given as goal

abbrev pub invariant-loop-candidate : goal.invariant-loop-candidate
invariant-loop-candidate g l = l.candidate ≤ l.fn.statement

abbrev pub decreases-loop-candidate : goal.decreases-loop-candidate
decreases-loop-candidate g l = l.candidate - l.earliest
