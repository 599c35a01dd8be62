use Rattle.mm_frame.specs.Latest.{is_part, IsCandidate}
use Rattle.mm_frame.proofs.LatestLaw.{height}
use Rattle.mm_frame.proofs.active.latest_part.Given as goal

abbrev pub invariant-loop-part : goal.invariant-loop-part
invariant-loop-part g l = IsCandidate (is_part l.essentials_alone) l.statements.list l.at l.part

abbrev pub decreases-loop-part : goal.decreases-loop-part
decreases-loop-part g l = height l.part
