use Rattle.std.proofs.Common.{rules, arith}
use Rattle.mm_frame.proofs.frames.FrameLists.new.Goals as goal

pub returns : goal.returns
returns g c = search (rules, arith)
