use Rattle.mm_plan.specs.Plans.{AreSortedUpTo}
use Rattle.mm_plan.proofs.is_sorted.Given as goal

abbrev pub invariant-loop-i : goal.invariant-loop-i
invariant-loop-i l = AreSortedUpTo l.places l.i
