use Rattle.std.proofs.Common.{rules, arith}
use Rattle.mm_frame.proofs.LatestLaw.{walked_with_last, walked_is_active}
use Rattle.mm_frame.proofs.active.active_essentials.Goals as goal
use Rattle.mm_spec.proofs.MemberLaw.{essential_local}

pub loop-essential-preserved : goal.loop-essential-preserved
loop-essential-preserved g c = search (rules, arith, walked_with_last)

pub returns : goal.returns
returns g c = search (rules, arith, walked_is_active, essential_local)
