-- What is said of each statement number, for the statements that a text has. (This project's own.)
use Rattle.std.specs.Prelude.{ℕ, Bool, List, Option}
use Rattle.mm_spec.specs.declared.Fault.{Fault}
use Rattle.mm_spec.specs.Statement.{Statement}
use Rattle.mm_spec.specs.Opened.{open_as_axioms}
use Rattle.mm_spec.specs.Lexed.{LexedText}
use Rattle.mm_spec.specs.Output.{IsRead}

-- P holds of each number k and the statements that are read from any text, as they count: with the
-- flag open theorems count as axioms, without it each statement counts as what it is
abbrev pub WhereRead : (List Statement → ℕ → Type 0) → Type 0
WhereRead P =
    (len : ℕ) (lexed : LexedText) (db : List Statement) (fault : Option Fault)
    → IsRead len lexed db fault
    → (with_open : Bool) (k : ℕ) → P (open_as_axioms with_open db) k
