-- A text is read. (This project's own.)
use Rattle.std.specs.Prelude.{ℕ, List, Option}
use Rattle.mm_spec.specs.declared.Fault.{Fault}
use Rattle.mm_spec.specs.Statement.{Statement}
use Rattle.mm_spec.specs.Lexed.{LexedText}
use Rattle.mm_spec.specs.Output.{IsRead}

-- the text is read: as some statements, with a fault or without one
abbrev pub IsReadable : ℕ → LexedText → Type 0
IsReadable len lexed = (db : List Statement) × (fault : Option Fault) × IsRead len lexed db fault
