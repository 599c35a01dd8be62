-- A table of bits as bands of 64 rows; band w has the rows from 64 * w on.
use Rattle.std.specs.Prelude.{ℕ, ◌+◌, ◌*◌, ◌<◌, ◌≤◌, ◌≡◌, ◌==◌, ◌&&◌, Bool, List, length}
use Rattle.std.specs.Prelude.{slice_index, nat_lt}
use Rattle.std.specs.Int.{bit_at}
use Rattle.mm_rows.specs.Bits.{is_bit, bit_index, words_for}

-- whether bit j of row i is set, if a row has `across` words; nothing is set past the last row
abbrev pub bit_in_rows : ℕ → ℕ → List ℕ → ℕ → ℕ → Bool
bit_in_rows rows across bits i j = nat_lt i rows && is_bit bits (bit_index across i j)

-- the word of column j that band w makes: bit k is that of row k of the band
abbrev pub IsColumnWord : ℕ → ℕ → List ℕ → ℕ → ℕ → ℕ → Type 0
IsColumnWord rows across bits w j word =
    (k : ℕ) → k < 64 → (bit_at word k == 1) ≡ bit_in_rows rows across bits (64 * w + k) j

-- a byte of each row of band w: the one with the bits of the 8 columns from 8 * m on
abbrev pub AreRowBytes : ℕ → ℕ → List ℕ → ℕ → ℕ → List ℕ → Type 0
AreRowBytes rows across bits w m bytes =
    (k b : ℕ) → k < 64 → b < 8
    → (bit_at (slice_index bytes k) b == 1) ≡ bit_in_rows rows across bits (64 * w + k) (8 * m + b)

-- columns that are being written: the bands below w are written, and band w is written in the
-- columns below `from`; all else is zero
pub record ColumnsWritten (rows columns : ℕ) (bits transposed : List ℕ) (w from : ℕ) : Type 0 where
  pub size_is : length transposed ≡ columns * words_for rows
  pub earlier_bands : (j v : ℕ) → j < columns → v < w → v < words_for rows
      → IsColumnWord rows (words_for columns) bits v j
      (slice_index transposed (j * words_for rows + v))
  pub written_below : (j : ℕ) → j < columns → j < from
      → IsColumnWord rows (words_for columns) bits w j
      (slice_index transposed (j * words_for rows + w))
  pub zero_from : (j : ℕ) → j < columns → from ≤ j → w < words_for rows
      → slice_index transposed (j * words_for rows + w) ≡ 0
  pub later_bands : (j v : ℕ) → j < columns → w < v → v < words_for rows
      → slice_index transposed (j * words_for rows + v) ≡ 0
