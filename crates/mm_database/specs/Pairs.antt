-- Pairs of symbols in lexicographic order, each once.
use Rattle.std.specs.Prelude.{◌≡◌, ℕ, ◌<◌, Bool, true, ◌&&◌, ◌||◌, List, [], ◌∷◌, nat_eq, nat_lt}
use Rattle.std.specs.Prelude.{◌⊎◌}
use Rattle.std.specs.List.{list_any}

-- whether the pair of x and y, in this order, is in the list
abbrev pub has_pair : List (ℕ × ℕ) → ℕ → ℕ → Bool
has_pair ps x y = list_any (λ p. nat_eq x p.0 && nat_eq y p.1) ps

-- the pair of a and b is before the pair of x and y
abbrev pub IsBefore : ℕ → ℕ → ℕ → ℕ → Type 0
IsBefore a b x y = (a < x) ⊎ ((a ≡ x) × (b < y))

-- whether the pair p is before the pair of x and y
abbrev pub is_pair_before : ℕ × ℕ → ℕ → ℕ → Bool
is_pair_before p x y = nat_lt p.0 x || (nat_eq p.0 x && nat_lt p.1 y)

-- each is before those after it
abbrev pub AreRising : List (ℕ × ℕ) → Type 0
AreRising [] = Unit {0}
AreRising (p ∷ ps) = ((x y : ℕ) → has_pair ps x y ≡ true → IsBefore p.0 p.1 x y) × AreRising ps
