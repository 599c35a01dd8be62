-- What is read of a text before its frames are made.
use Rattle.std.specs.Prelude.{◌≡◌, ℕ, Bool, List, length}
use Rattle.mm_spec.specs.Lexed.{lexed_of}
use Rattle.mm_spec.specs.Output.{IsRead}
use Rattle.mm_database.specs.Database.{IsDatabase}
use Rattle.mm_database.specs.FrameTables.{AreFrameTables}
use Rattle.mm_database.specs.declared.frames.FrameTables.{FrameTables}
use Rattle.mm_stmt.specs.declared.unframed.Unframed.{Unframed}

module _ {A : Type 0} where
  -- This was read of the text, and with the frames of its statements it is a database.
  pub record IsUnframed (text : List ℕ) (with_open : Bool) (u : Unframed A) : Type 0 where
    pub text_is : u.reading.statements.text ≡ text
    pub is_read : IsRead (length text) (lexed_of text) u.reading.statements.list u.reading.fault
    pub frames_complete_it : (b : FrameTables A)
        → AreFrameTables u.reading.statements.list u.reading.statements.blocks b
        → IsDatabase with_open u.reading (record {
          frame_tables = b;
          statement_lists = u.statement_lists;
          retained_words = u.retained_words;
        })
