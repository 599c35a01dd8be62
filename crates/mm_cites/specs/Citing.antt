-- What each theorem cites, as lists.
use Rattle.std.specs.Prelude.{◌≡◌, ℕ, ◌<◌, ◌^◌, List, [], length, slice_index, slice_index_or}

-- the theorems' statements, and for each the statements that it cites
pub record Citing : Type 0 where
  pub theorems : List ℕ
  pub cites : List (List ℕ)

-- these theorems cite these lists of statements
abbrev pub citing : List ℕ → List (List ℕ) → Citing
citing theorems cites = record { theorems = theorems; cites = cites }

-- the statement of the theorem in row `i`
abbrev pub theorem_at : Citing → ℕ → ℕ
theorem_at c i = slice_index c.theorems i

-- the statements that the theorem in row `i` cites
abbrev pub list_at : Citing → ℕ → List ℕ
list_at c i = slice_index_or c.cites i []

-- fewer than 2^31 statements, each greater than the one before it
pub record IsStatementList (xs : List ℕ) : Type 0 where
  pub count_lt_2_31 : length xs < 2 ^ 31
  pub rises : (i j : ℕ) → i < j → j < length xs → slice_index xs i < slice_index xs j

-- the theorems are in file order, and each has a list, which has only statements before its own
pub record IsFileOrder (c : Citing) : Type 0 where
  pub theorems_rise : IsStatementList c.theorems
  pub each_has_list : length c.cites ≡ length c.theorems
  pub cited_are_earlier : (i k : ℕ) → i < length c.theorems → k < length (list_at c i)
      → slice_index (list_at c i) k < theorem_at c i

-- theorem t cites a: its row has a in its list
pub record HasCitation (c : Citing) (t a : ℕ) : Type 0 where
  pub row : ℕ
  pub list_index : ℕ
  pub row_lt_count : row < length c.theorems
  pub index_lt_length : list_index < length (list_at c row)
  pub theorem_is : theorem_at c row ≡ t
  pub cited_is : slice_index (list_at c row) list_index ≡ a
