-- The marks of a row or of a column as bits.
use Rattle.std.specs.Prelude.{◌≡◌, ℕ, ◌<◌, ◌≤◌, ◌*◌, ◌^◌, Bool, List, length, false}
use Rattle.mm_rows.specs.Bits.{is_bit, words_for}
use Rattle.mm_rows.specs.BitRows.{row_at}
use Rattle.mm_rows.specs.Marks.{Marks, mark}

-- the bits of n marks, and nothing is set past the last of them
pub record AreBitsOf (is_marked : ℕ → Bool) (n : ℕ) (bits : List ℕ) : Type 0 where
  pub n_lt_2_31 : n < 2 ^ 31
  pub size_is : length bits ≡ words_for n
  pub bits_are_marks : (i : ℕ) → i < n → is_bit bits i ≡ is_marked i
  pub none_past_end : (i : ℕ) → n ≤ i → is_bit bits i ≡ false

-- the bits of row i: a bit for each column
abbrev pub AreBitsOfRow : Marks → ℕ → List ℕ → Type 0
AreBitsOfRow m i bits = AreBitsOf (mark m i) m.columns bits

-- the bits of column j: a bit for each row
abbrev pub AreBitsOfColumn : Marks → ℕ → List ℕ → Type 0
AreBitsOfColumn m j bits = AreBitsOf (λ i. mark m i j) m.rows bits

-- the bits of all columns, column by column
pub record AreBitsOfColumns (m : Marks) (words : List ℕ) : Type 0 where
  pub size_is : length words ≡ m.columns * words_for m.rows
  pub each_has_bits : (j : ℕ) → j < m.columns
      → AreBitsOfColumn m j (row_at words (words_for m.rows) j)
