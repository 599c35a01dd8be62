-- For each symbol the list of the lower symbols with which a narrow `$d` has it, and how these lists
-- are made.
use Rattle.std.specs.Prelude.{◌≡◌, ℕ, ◌<◌, ◌≤◌, Bool, ◌&&◌, ◌||◌, List, length, get_or, nat_eq, Vec}
use Rattle.mm_database.specs.Pairs.{has_pair}

-- no statement of the pairs is before that of an earlier pair
abbrev pub DoStatementsRise : List (ℕ × ℕ) → Type 0
DoStatementsRise ps =
    (p q : ℕ) → p ≤ q → q < length ps → (get_or ps p (0, 0)).1 ≤ (get_or ps q (0, 0)).1

-- the list has the pairs of a symbol and a statement that pass the test, in the order of the
-- statements, of which `last` or an earlier one is the last
pub record IsListFor (passes : ℕ → ℕ → Bool) (last : ℕ) (list : List (ℕ × ℕ)) : Type 0 where
  pub members_are : (x j : ℕ) → has_pair list x j ≡ passes x j
  pub statements_rise : DoStatementsRise list
  pub statements_le : (p : ℕ) → p < length list → (get_or list p (0, 0)).1 ≤ last

module _ {A : Type 0} where
  -- the list of each symbol y has the pairs of x and j for which `passes y x j` is true
  abbrev pub AreLowerLists : (ℕ → ℕ → ℕ → Bool) → ℕ → List (Vec (ℕ × ℕ) A) → Type 0
  AreLowerLists passes last lists =
      (y : ℕ) (d : Vec (ℕ × ℕ) A) → y < length lists
      → IsListFor (passes y) last (get_or lists y d).items

  -- Each x that passes the test of y is appended to the list of y, paired with the statement k. No
  -- statement of the lists is behind k.
  abbrev pub AddsToLists : (ℕ → ℕ → Bool) → ℕ → List (Vec (ℕ × ℕ) A) → List (Vec (ℕ × ℕ) A)
      → Type 0
  AddsToLists test k old new =
      (passes : ℕ → ℕ → ℕ → Bool) → AreLowerLists passes k old
      → AreLowerLists (λ y x j. passes y x j || (test y x && nat_eq j k)) k new
