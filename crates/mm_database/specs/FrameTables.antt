-- The frames of the assertions, and the `$d` by their variables.
use Rattle.std.specs.Prelude.{◌≡◌, List, length}
use Rattle.mm_spec.specs.Statement.{Statement}
use Rattle.mm_outline.specs.Blocks.{BlockLists}
use Rattle.mm_database.specs.Frames.{frames_before}
use Rattle.mm_database.specs.DisjointIndex.{IsDisjointIndex}
use Rattle.mm_database.specs.declared.frames.FrameTables.{FrameTables}

module _ {A : Type 0} where
  -- The tables are those of the statements: the index has each variable with each `$d` that has it,
  -- and what may be skipped by these blocks; the frames are those of the assertions.
  pub record AreFrameTables (db : List Statement) (blocks : BlockLists)
      (frame_tables : FrameTables A) : Type 0 where
    pub disjoint_index : IsDisjointIndex db blocks frame_tables.disjoint_index
    pub frames : frame_tables.frames ≡ frames_before db (length db)
