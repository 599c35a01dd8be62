use Rattle.std.proofs.Common.{rules, take_all, arith}
use Rattle.mm_frame.proofs.frames.are_pairs.Goals as goal

pub returns : goal.returns
returns c = search (rules, arith, take_all)
