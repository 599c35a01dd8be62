-- What rows of bits say of chains of citations. A word is 64 bits of a row here, no word of the
-- text.
use Rattle.std.specs.Prelude.{◌≡◌, ℕ, ◌+◌, ◌*◌, slice_range, ◌<◌, ◌≤◌, Bool, false, List, map}
use Rattle.std.specs.Prelude.{length, slice_index, Decides}
use Rattle.std.specs.List.{range_with_len}
use Rattle.mm_spec.specs.Chains.{RestsOn}
use Rattle.mm_cites.specs.Citing.{Citing, HasCitation, theorem_at}
use Rattle.mm_rows.specs.Bits.{EndsAt, is_bit, words_for, bit_index}
use Rattle.mm_rows.specs.Marks.{Marks}

-- the bits of statement t: which columns it rests on, and nothing past the last column
pub record IsBitRow (c : Citing) (axioms : List ℕ) (t : ℕ) (row : List ℕ) : Type 0 where
  pub has_words : length row ≡ words_for (length axioms)
  pub marks_decide : (j : ℕ) → j < length axioms
      → Decides (is_bit row j) (RestsOn (HasCitation c) t (slice_index axioms j))
  pub none_past_columns : (j : ℕ) → length axioms ≤ j → is_bit row j ≡ false

-- the words of row r, if a row has `width` words
abbrev pub row_at : List ℕ → ℕ → ℕ → List ℕ
row_at bits width r = slice_range bits (r * width) (r * width + width)

-- if statement t is a theorem, its row, which is `width` words of `bits`, is its bits
abbrev pub IsRowKnown : Citing → List ℕ → List ℕ → ℕ → ℕ → Type 0
IsRowKnown c axioms bits width t =
    (r : ℕ) → r < length c.theorems → theorem_at c r ≡ t
    → IsBitRow c axioms t (row_at bits width r)

-- the words of the first n theorems, row by row
pub record AreBitRows (c : Citing) (axioms : List ℕ) (n : ℕ) (bits : List ℕ) : Type 0 where
  pub size_is : length bits ≡ n * words_for (length axioms)
  pub each_is_bit_row : (r : ℕ) → r < n
      → IsBitRow c axioms (theorem_at c r) (row_at bits (words_for (length axioms)) r)

-- if statement t is a theorem, `ends` says where its row ends; a row is `width` words of `bits`
abbrev pub IsEndKnown : Citing → List ℕ → List ℕ → ℕ → ℕ → Type 0
IsEndKnown c bits ends width t =
    (r : ℕ) → r < length c.theorems → theorem_at c r ≡ t
    → (r < length ends) × EndsAt (row_at bits width r) (slice_index ends r)

-- where each of the first n rows ends
pub record AreEnds (bits : List ℕ) (width n : ℕ) (ends : List ℕ) : Type 0 where
  pub count_is : length ends ≡ n
  pub each_ends : (r : ℕ) → r < n → EndsAt (row_at bits width r) (slice_index ends r)

-- the cells of row i of a table of bits
abbrev pub cells_of : ℕ → List ℕ → ℕ → List Bool
cells_of columns bits i =
    map (λ j. is_bit bits (bit_index (words_for columns) i j)) (range_with_len 0 columns)

-- the marks of a table of bits
abbrev pub marks : ℕ → ℕ → List ℕ → Marks
marks rows columns bits =
    record {
      rows = rows;
      columns = columns;
      cells = map (cells_of columns bits) (range_with_len 0 rows);
    }
