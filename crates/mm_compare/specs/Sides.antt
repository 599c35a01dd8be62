-- A database of `mm_database` as it is compared, and which assertion of another one is one of its
-- own.
use Rattle.std.specs.Prelude.{◌≡◌, ℕ, true, false, IsTrue, Option, Some, None}
use Rattle.mm_spec.specs.Output.{is_open_at}
use Rattle.mm_database.specs.Database.{Contents}
use Rattle.mm_spec.specs.Comparison.{Side, side, is_same}

abbrev pub side_of : Contents → Side
side_of d = side d.statements (is_open_at d.read d.with_open)

-- b is the one statement of t that is assertion a of s, or there is none
abbrev pub IsTheSame : Side → ℕ → Side → Option ℕ → Type 0
IsTheSame s a t (Some b) =
    IsTrue (is_same s a t b) × ((i : ℕ) → is_same s a t i ≡ true → i ≡ b)
IsTheSame s a t None = (i : ℕ) → is_same s a t i ≡ false
