use Rattle.std.proofs.Common.{rules, arith}
use Rattle.mm_database.proofs.FrameIndicesLaw.{frames_at_push_none}
use Rattle.mm_database.proofs.frames.Frames.add_none.Goals as goal

pub returns : goal.returns
returns g c = search (rules, arith, frames_at_push_none)
