-- A table of marks, and what it says of chains of citations.
use Rattle.std.specs.Prelude.{Option, Some, None, ◌≡◌, ℕ, ◌+◌, ◌<◌, Bool, false, List, [], length}
use Rattle.std.specs.Prelude.{map, slice_index, slice_index_or, Decides}
use Rattle.std.specs.List.{range_with_len}
use Rattle.mm_spec.specs.Chains.{RestsOn}
use Rattle.mm_cites.specs.Citing.{Citing, HasCitation, theorem_at}

-- the numbers of rows and columns, and for each row whether it is marked in each column
pub record Marks : Type 0 where
  pub rows : ℕ
  pub columns : ℕ
  pub cells : List (List Bool)

-- whether a row is marked in a column
abbrev pub mark : Marks → ℕ → ℕ → Bool
mark m i j = slice_index_or (slice_index_or m.cells i []) j false

-- the marks of a row
abbrev pub row_marks : Marks → ℕ → List Bool
row_marks m i = map (mark m i) (range_with_len 0 m.columns)

-- k is above the number, if one is given
abbrev pub IsAbove : Option ℕ → ℕ → Type 0
IsAbove None k = Unit {0}
IsAbove (Some i) k = i < k

-- the first number above the given one, or of all numbers if none is given
abbrev pub first_after : Option ℕ → ℕ
first_after None = 0
first_after (Some i) = i + 1

-- a table with a row for each theorem and a column for each of these axioms, in which a cell is
-- marked exactly if a chain of citations leads from the theorem to the axiom
pub record IsMatrix (c : Citing) (axioms : List ℕ) (m : Marks) : Type 0 where
  pub rows_are : m.rows ≡ length c.theorems
  pub columns_are : m.columns ≡ length axioms
  pub marks_decide : (i j : ℕ) → i < length c.theorems → j < length axioms
      → Decides (mark m i j) (RestsOn (HasCitation c) (theorem_at c i) (slice_index axioms j))
