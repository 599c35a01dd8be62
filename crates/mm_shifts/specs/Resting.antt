-- A database with what its theorems cite, and the marks that say what they rest on.
use Rattle.std.specs.Prelude.{◌≡◌, ◌<◌, ◌≤◌, ℕ, List, length, Option, Some, None, slice_index}
use Rattle.mm_spec.specs.Chains as chain
use Rattle.mm_spec.specs.Output.{theorems, columns}
use Rattle.mm_database.specs.Database.{Contents}
use Rattle.mm_cites.specs.Citing.{Citing, HasCitation}
use Rattle.mm_rows.specs.Marks.{Marks, IsMatrix}
use Rattle.mm_spec.specs.Comparison.{Side}
use Rattle.mm_compare.specs.Sides.{side_of}

pub record Resting : Type 0 where
  pub contents : Contents
  pub citing : Citing

abbrev pub resting : Contents → Citing → Resting
resting d c = record { contents = d; citing = c }

-- a chain of citations leads from t to a
abbrev pub Rests : Resting → ℕ → ℕ → Type 0
Rests r t a = chain.RestsOn (HasCitation r.citing) t a

abbrev pub side_in : Resting → Side
side_in r = side_of r.contents

-- the citations are those of the database's theorems, the columns are all its axioms, and the table
-- has a row for each theorem and a column for each axiom
pub record IsMarked (d : Contents) (c : Citing) (axioms : List ℕ) (m : Marks) : Type 0 where
  pub theorems_are : c.theorems ≡ theorems d.statements
  pub axioms_are : axioms ≡ columns d.statements None
  pub is_matrix : IsMatrix c axioms m

-- the same, with the lists in which the indices of theorems and axioms are looked up
pub record IsIndexed (d : Contents) (c : Citing) (axioms : List ℕ) (m : Marks)
    (rows found_columns : List ℕ) : Type 0 where
  pub is_marked : IsMarked d c axioms m
  pub rows_are : rows ≡ c.theorems
  pub found_columns_are : found_columns ≡ axioms

-- the theorem in a row rests on the axiom in a column
abbrev pub RestsInCell : Resting → (row column : ℕ) → Type 0
RestsInCell r row column =
    Rests r (slice_index (theorems r.contents.statements) row)
    (slice_index (columns r.contents.statements None) column)

-- the first column from `from` on on whose axiom the theorem in a row rests, or there is none
abbrev pub IsNextMarked : Resting → (row from : ℕ) → Option ℕ → Type 0
IsNextMarked r row from (Some j) =
    (from ≤ j) × (j < length (columns r.contents.statements None)) × RestsInCell r row j
    × ((k : ℕ) → from ≤ k → k < j → ¬ RestsInCell r row k)
IsNextMarked r row from None =
    (k : ℕ) → from ≤ k → k < length (columns r.contents.statements None) → ¬ RestsInCell r row k
