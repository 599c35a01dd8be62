-- Ascending lists of numbers.
use Rattle.std.specs.Prelude.{ℕ, ◌≤◌, ◌+◌, List, [], ◌∷◌}

-- strictly ascending, each at least `least`
abbrev pub IsRisingFrom : ℕ → List ℕ → Type 0
IsRisingFrom least [] = Unit {0}
IsRisingFrom least (j ∷ js) = (least ≤ j) × IsRisingFrom (j + 1) js
