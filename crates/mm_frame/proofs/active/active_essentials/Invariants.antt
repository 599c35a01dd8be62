use Rattle.mm_spec.specs.Frame.{is_essential}
use Rattle.mm_frame.proofs.LatestLaw.{IsWalked, height}
use Rattle.mm_frame.proofs.active.active_essentials.Given as goal

abbrev pub invariant-loop-essential : goal.invariant-loop-essential
invariant-loop-essential g l = IsWalked is_essential l.statements.list l.at l.into.items l.essential

abbrev pub decreases-loop-essential : goal.decreases-loop-essential
decreases-loop-essential g l = height l.essential
