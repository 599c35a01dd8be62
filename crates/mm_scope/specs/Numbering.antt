-- The symbols of the first statements by their numbers, and those of a stretch of the statements.
use Rattle.std.specs.Prelude.{◌≡◌, ◌≤◌, ◌++◌, ℕ, List, take}
use Rattle.mm_spec.specs.Text.{Bytes}
use Rattle.mm_spec.specs.declared.Word.{Word}
use Rattle.mm_outline.specs.Statements.{statements}
use Rattle.mm_outline.specs.declared.parts.Outline.{Outline}
use Rattle.mm_scope.specs.Formulas.{numbers_by}
use Rattle.mm_scope.specs.declared.numbering.NumbersBefore.{NumbersBefore}
use Rattle.mm_scope.specs.declared.numbering.StretchNumbers.{StretchNumbers}

-- the numbers of the symbols of the first n statements
abbrev pub numbers_up_to : List Bytes → List ℕ → List Word → List Outline → ℕ → List ℕ
numbers_up_to names text ws os n = numbers_by names (statements text ws (take n os))

module _ {A : Type 0} where
  -- these are the numbers up to a statement, as they are wanted up to each of the statements
  pub record AreNumbersBefore (wanted : ℕ → List ℕ) (statement_count : ℕ) (b : NumbersBefore A)
      : Type 0 where
    pub count_le : b.count ≤ statement_count
    pub numbers_are : b.numbers.items ≡ wanted b.count

  -- these are the numbers that lead from those up to one statement to those up to another
  pub record IsNumberedStretch (wanted : ℕ → List ℕ) (statement_count : ℕ) (s : StretchNumbers A)
      : Type 0 where
    pub to_le_count : s.to ≤ statement_count
    pub numbers_are : wanted s.from ++ s.numbers.items ≡ wanted s.to
