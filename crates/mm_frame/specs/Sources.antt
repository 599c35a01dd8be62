-- What frames are found from.
use Rattle.mm_spec.specs.Frame.{is_essential}
use Rattle.mm_database.specs.DisjointIndex.{IsDisjointIndex}
use Rattle.mm_frame.specs.Latest.{AreLatest, is_frame_part}
use Rattle.mm_database.specs.ParsedStatements.{IsSound}
use Rattle.mm_frame.specs.declared.sources.FrameSources.{FrameSources}

module _ {A : Type 0} where
  -- the statements are sound, and the latest `$e`, the latest of all statements of which frames are
  -- made, and the index of the `$d` are theirs
  pub record AreSources (s : FrameSources A) : Type 0 where
    pub sound : IsSound s.statements.now.list
    pub essentials_are : AreLatest is_essential s.statements.now.list s.essentials.now
    pub frame_parts_are : AreLatest is_frame_part s.statements.now.list s.frame_parts.now
    pub index_is : IsDisjointIndex s.statements.now.list s.statements.now.blocks
        s.disjoint_index.now
