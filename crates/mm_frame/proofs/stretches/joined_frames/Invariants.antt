use Rattle.std.proofs.Common.{vec_len}
use Rattle.mm_frame.proofs.StretchesLaw.{AreJoined}
use Rattle.mm_frame.proofs.stretches.joined_frames.Given as goal

abbrev pub invariant-joining : goal.invariant-joining
invariant-joining g l = AreJoined l.statements.list l.stretches.size l.frames l.unjoined.items

abbrev pub decreases-joining : goal.decreases-joining
decreases-joining g l = vec_len l.unjoined
