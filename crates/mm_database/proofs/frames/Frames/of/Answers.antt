use Rattle.std.proofs.Common.{rules, arith}
use Rattle.std.proofs.lemmas.List.{get_or_default}
use Rattle.mm_database.proofs.FrameIndicesLaw.{frame_index_lt_length, frame_at_index}
use Rattle.mm_database.proofs.frames.Frames.of.Goals as goal

pub index-index-requires : goal.index-index-requires
index-index-requires g c = search (rules, arith, frame_index_lt_length, c.self.view_is, c.requires)

pub index-requires : goal.index-requires
index-requires g c = search (rules, arith, get_or_default, frame_index_lt_length, frame_at_index)

pub returns : goal.returns
returns g c = search (rules, arith, get_or_default, frame_index_lt_length, frame_at_index)
