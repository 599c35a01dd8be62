-- Where a map of names has its guesses of the names' indices.
use Rattle.std.specs.Prelude.{◌≡◌, ℕ, ◌+◌, ◌-◌, ◌*◌, ◌/◌, ◌%◌, ◌^◌, ◌<◌, nat_eq}
use Rattle.std.specs.Prelude.{List, length, Some, slice_get, slice_index, if◌then◌else◌}
use Rattle.mm_database.specs.Ends.{ends_of}

-- stands in a place without a guess
abbrev pub no_guess : ℕ
no_guess = 4294967295

-- how many places the guess for a name can have, one after the other
abbrev pub window : ℕ
window = 4

-- The first place of the guess for a name among so many. Which one it is decides only how fast a
-- name is found.
abbrev pub first_place : List ℕ → ℕ → ℕ
first_place w count =
    if nat_eq (length w) 1 then slice_index w 0 else
    (let ends = ends_of w in
    256 + (((ends.0 * 11400714785074694791 % 2 ^ 64 + ends.1 * 14029467366897019727 % 2 ^ 64)
    % 2 ^ 64 + length w * 1609587929392839161 % 2 ^ 64) % 2 ^ 64 / 2 ^ 32 * (count - 256)) % 2 ^ 64
    / 2 ^ 32)

-- before a free place of a name's guess stands the guess that is its index
abbrev pub IsGuessed : List ℕ → List ℕ → ℕ → Type 0
IsGuessed guesses w i =
    let first = first_place w (length guesses) in
    (k : ℕ) → k < window → slice_get guesses (first + k) ≡ Some no_guess
    → (m : ℕ) × (m < k) × (i < no_guess) × (slice_get guesses (first + m) ≡ Some i)

-- each name is guessed, or all places of its guess are taken
abbrev pub AreGuessed : List (List ℕ) → List ℕ → Type 0
AreGuessed ns guesses = (i : ℕ) (w : List ℕ) → slice_get ns i ≡ Some w → IsGuessed guesses w i
