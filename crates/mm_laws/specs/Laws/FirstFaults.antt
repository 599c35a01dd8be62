-- A text has a first fault or none. (This project's own.)
use Rattle.std.specs.Prelude.{ℕ, Bool, List, ◌⊎◌}
use Rattle.mm_spec.specs.declared.Fault.{Fault}
use Rattle.mm_spec.specs.Statement.{Statement}
use Rattle.mm_spec.specs.Lexed.{LexedText}
use Rattle.mm_spec.specs.Output.{FirstFault, HasNoFault}

-- the text has a first fault, or none at all
abbrev pub IsSoundOrFaulty : ℕ → LexedText → (with_open : Bool) → Type 0
IsSoundOrFaulty len lexed with_open =
    ((f : Fault) × FirstFault len lexed with_open f)
    ⊎ ((db : List Statement) × HasNoFault len lexed with_open db)
