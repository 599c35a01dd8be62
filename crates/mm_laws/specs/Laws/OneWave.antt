-- Each theorem has one wave. (This project's own.)
use Rattle.std.specs.Prelude.{◌≡◌, ℕ, Bool, List}
use Rattle.mm_spec.specs.Statement.{Statement}
use Rattle.mm_spec.specs.Opened.{open_as_axioms}
use Rattle.mm_spec.specs.Laws.Waves.{IsWave}
use Rattle.mm_spec.specs.Lexed.{LexedText}
use Rattle.mm_spec.specs.Output.{HasNoFault}

-- if there is no fault, each theorem has exactly one wave
abbrev pub HaveWaves : ℕ → LexedText → (with_open : Bool) → Type 0
HaveWaves len lexed with_open =
    (db : List Statement) → HasNoFault len lexed with_open db → (by_essential : Bool) (t : ℕ)
    → (n : ℕ) × IsWave (open_as_axioms with_open db) by_essential t n
    × ((m : ℕ) → IsWave (open_as_axioms with_open db) by_essential t m → m ≡ n)
