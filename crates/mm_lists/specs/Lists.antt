-- How lists are concatenated into one list.
use Rattle.std.specs.Prelude.{◌≡◌, ℕ, ◌≤◌, List, [], ◌∷◌, ◌++◌, length, flat_map, slice_range}

module _ {X : Type 0} where
  -- the lists one after the other
  abbrev pub joined : List (List X) → List X
  joined lists = flat_map (λ list. list) lists

  -- the lists, from the index at which the first begins and those at which they end
  abbrev pub cut_at : ℕ → List ℕ → List X → List (List X)
  cut_at from [] items = []
  cut_at from (end ∷ ends) items = slice_range items from end ∷ cut_at end ends items

  -- the lists, each from its bound up to the next one
  abbrev pub cut : List ℕ → List X → List (List X)
  cut [] items = []
  cut (from ∷ ends) items = cut_at from ends items

-- no end is less than the one before it, and the last one is the length of the one list
abbrev pub AreEnds : ℕ → List ℕ → ℕ → Type 0
AreEnds from [] len = from ≡ len
AreEnds from (end ∷ ends) len = (from ≤ end) × AreEnds end ends len

-- a 0, and then where each list ends; or nothing, where there are no lists yet
abbrev pub AreBounds : List ℕ → ℕ → Type 0
AreBounds [] len = 0 ≡ len
AreBounds (from ∷ ends) len = (from ≡ 0) × AreEnds from ends len

-- the bounds with the end of one list more
abbrev pub with_end : List ℕ → ℕ → List ℕ
with_end [] end = 0 ∷ end ∷ []
with_end (bound ∷ bounds) end = bound ∷ bounds ++ end ∷ []

-- `items` is the lists one after the other, with these bounds
pub record AreJoined {X : Type 0} (lists : List (List X)) (items : List X)
    (bounds : List ℕ) : Type 0 where
  pub are_bounds : AreBounds bounds (length items)
  pub cut_is_lists : cut bounds items ≡ lists
