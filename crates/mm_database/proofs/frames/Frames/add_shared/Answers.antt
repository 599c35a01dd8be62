use Rattle.std.proofs.Common.{rules, arith}
use Rattle.mm_database.proofs.FrameIndicesLaw.{indices_with_shared}
use Rattle.mm_database.proofs.frames.Frames.add_shared.Goals as goal

pub invariant_of-self-2 : goal.invariant_of-self-2
invariant_of-self-2 g c = search (rules, arith, indices_with_shared)
