-- Statements cut into stretches of one size.
use Rattle.std.specs.Prelude.{◌≡◌, ℕ, ◌+◌, List, Option, length}
use Rattle.mm_spec.specs.Statement.{Statement}
use Rattle.mm_database.specs.Frames.{Mandatory, frames_between}
use Rattle.mm_stretches.specs.Stretches.{stretch_start}

-- the frames are those of the assertions of a stretch
pub record AreStretchFrames (db : List Statement) (size index : ℕ)
    (frames : List (Option Mandatory)) : Type 0 where
  pub frames_are : frames ≡ frames_between db (stretch_start size (length db) index)
      (stretch_start size (length db) (index + 1))
