use Rattle.std.proofs.Common.{rules, arith}
use Rattle.mm_frame.proofs.LatestLaw.{candidate_at_latest}
use Rattle.mm_frame.proofs.active.latest_part.Goals as goal

pub loop-part-preserved : goal.loop-part-preserved
loop-part-preserved g c = search (rules, arith, candidate_at_latest)
