use Rattle.std.proofs.Common.{◌≡◌, ◌<◌, ℕ, List, Some, slice_get}
use Rattle.mm_database.specs.Names.{names_of}
use Rattle.mm_database.specs.Guesses.{IsGuessed}
use Rattle.mm_database.proofs.name_map.renew_guesses.Given as goal

abbrev pub invariant-loop-index : goal.invariant-loop-index
invariant-loop-index g l =
    (i : ℕ) (w : List ℕ) → i < l.index → slice_get (names_of l.entries.entries) i ≡ Some w
    → IsGuessed l.guesses.items w i
