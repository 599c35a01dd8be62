-- Whether a theorem rests on a statement is decided. (This project's own.)
use Rattle.std.specs.Prelude.{ℕ, Bool, List}
use Rattle.mm_spec.specs.Statement.{Statement}
use Rattle.mm_spec.specs.Opened.{open_as_axioms}
use Rattle.mm_spec.specs.Citation.{RestsOn}
use Rattle.mm_spec.specs.Lexed.{LexedText}
use Rattle.mm_spec.specs.Output.{HasNoFault}
use Rattle.mm_spec.specs.Laws.Decided.{IsDecided}

-- if there is no fault, each cell is marked or not
abbrev pub AreDecided : ℕ → LexedText → (with_open : Bool) → Type 0
AreDecided len lexed with_open =
    (db : List Statement) → HasNoFault len lexed with_open db → (by_essential : Bool) (t a : ℕ)
    → IsDecided (RestsOn (open_as_axioms with_open db) by_essential t a)
