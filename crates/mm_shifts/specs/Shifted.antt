-- On which axioms theorems rest in one database and not in another.
use Rattle.std.specs.Prelude.{◌≡◌, ℕ, ◌<◌, true, List, [], length, Option, Some, None}
use Rattle.std.specs.Prelude.{IsTrue, slice_index, slice_index_or}
use Rattle.std.specs.List.{list_any}
use Rattle.std.specs.List.Sorted.{IsStrictlyIncreasing}
use Rattle.mm_spec.specs.Text.{Bytes}
use Rattle.mm_spec.specs.Scope.{statement_at}
use Rattle.mm_spec.specs.Derivation.{is_member}
use Rattle.mm_spec.specs.Assertion.{has_typecode, has_label, label_at}
use Rattle.mm_spec.specs.Output.{is_theorem_at}
use Rattle.mm_spec.specs.Comparison.{Side, RestsThere, AreShifted}
use Rattle.mm_compare.specs.Sides.{IsTheSame}
use Rattle.mm_shifts.specs.Resting.{Resting, Rests, side_in}

-- for each of these assertions of s the one of t that it is
pub record AreTheSame (s : Side) (assertions : List ℕ) (t : Side)
    (there : List (Option ℕ)) : Type 0 where
  pub count_is : length there ≡ length assertions
  pub each_is_same : (j : ℕ) → j < length assertions
      → IsTheSame s (slice_index assertions j) t (slice_index_or there j None)

-- m is the one theorem of t with the label of statement n of s, or there is none
abbrev pub IsNamesake : Side → ℕ → Side → Option ℕ → Type 0
IsNamesake s n t (Some m) =
    IsTrue (is_theorem_at t.statements m)
    × ((i : ℕ) → has_label t.statements (label_at s.statements n) i ≡ true → i ≡ m)
    × IsTrue (has_label t.statements (label_at s.statements n) m)
IsNamesake s n t None =
    (i : ℕ) → is_theorem_at t.statements i ≡ true
    → ¬ (has_label t.statements (label_at s.statements n) i ≡ true)

-- theorem n rests on axiom a in r, a has the typecode if one is chosen, and in `other` no theorem
-- with the label of n rests on a
pub record IsShifted (r other : Resting) (only : Option Bytes) (n a : ℕ) : Type 0 where
  pub has_typecode : list_any (has_typecode only) (statement_at r.contents.statements a) ≡ true
  pub rests : Rests r n a
  pub not_there : ¬ RestsThere (Rests other) (side_in r) n a (side_in other)

-- the list has those of the first j axioms that are shifted, in file order
pub record AreShiftedOfFirst (axioms : List ℕ) (r other : Resting) (only : Option Bytes) (n : ℕ)
    (j : ℕ) (list : List ℕ) : Type 0 where
  pub rising : IsStrictlyIncreasing list
  pub are_shifted : (a : ℕ) → is_member list a ≡ true
      → (k : ℕ) × (k < j) × (slice_index axioms k ≡ a) × IsShifted r other only n a
  pub all_are_listed : (k : ℕ) → k < j → IsShifted r other only n (slice_index axioms k)
      → is_member list (slice_index axioms k) ≡ true

-- for each theorem of r the axioms on which it rests, and in `other` no theorem with its label does
pub record AreAllShifted (r other : Resting) (only : Option Bytes) (theorems : List ℕ)
    (lists : List (List ℕ)) : Type 0 where
  pub count_is : length lists ≡ length theorems
  pub each_is_shifted : (i : ℕ) → i < length theorems
      → AreShifted (Rests r) (Rests other) only (side_in r) (side_in other)
      (slice_index theorems i) (slice_index_or lists i [])
