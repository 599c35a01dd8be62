use Rattle.std.proofs.Common.{rules, arith, eqb-true}
use Rattle.mm_database.proofs.FrameIndicesLaw.{frame_index_lt_length, frame_of_same_index}
use Rattle.mm_database.proofs.frames.Frames.are_shared.Goals as goal

pub index-requires : goal.index-requires
index-requires g c = search (rules, arith, frame_index_lt_length, c.self.view_is, c.requires)

pub returns : goal.returns
returns g c = search (rules, eqb-true, frame_of_same_index)
