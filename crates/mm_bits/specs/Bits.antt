-- Bits of rows of words. A word has 64 bits here, and is no word of the text.
use Rattle.std.specs.Prelude.{ℕ, ◌/◌, ◌%◌, ◌≡◌, ◌==◌, Bool, true, List, slice_index}
use Rattle.std.specs.Int.{bit_at}

-- whether bit j is set
abbrev pub is_bit : List ℕ → ℕ → Bool
is_bit row j = bit_at (slice_index row (j / 64)) (j % 64) == 1

-- each bit that is set in the second row is set in the first
abbrev pub HasBitsOf : List ℕ → List ℕ → Type 0
HasBitsOf row bits = (k : ℕ) → is_bit bits k ≡ true → is_bit row k ≡ true
