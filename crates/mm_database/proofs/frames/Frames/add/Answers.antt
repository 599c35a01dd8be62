use Rattle.std.proofs.Common.{arith, rules}
use Rattle.mm_database.proofs.FrameIndicesLaw.{frames_at_push_frame, as_many_indices}
use Rattle.mm_database.proofs.frames.Frames.add.Goals as goal

pub overflow_cast-index : goal.overflow_cast-index
overflow_cast-index g c = search (rules, arith)

pub returns : goal.returns
returns g c = search (rules, arith, as_many_indices, frames_at_push_frame)
