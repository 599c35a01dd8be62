-- Statements that are selected, and their labels.
use Rattle.std.proofs.lemmas.Grind.{common_steps}
use Rattle.std.proofs.Common.{rules, ◌≡◌, ℕ, ◌<◌, ◌≤◌, Bool, List, ◌∷◌, length, map, All, arith}
use Rattle.std.proofs.lemmas.List.Elements.{All-filter}
use Rattle.std.proofs.lemmas.List.FromFn.{length-range_with_len, get_or-range_with_len}
use Rattle.std.specs.Prelude.{flat_map, slice_range}
use Rattle.std.specs.List.{range_with_len, filter}
use Rattle.std.proofs.lemmas.List.{take-map, drop-map}
use Rattle.std.proofs.lemmas.List.Folds.{flat_map-map}
use Rattle.mm_spec.specs.Text.{Bytes}

-- the numbers below n are below n
pub numbers_lt_bound : (n : ℕ) → All (λ k. k < n) (range_with_len 0 n)
numbers_lt_bound n i d i_lt_length =
    grind (arith, common_steps, length-range_with_len, get_or-range_with_len)

-- a selection among the numbers below n is below n
pub selected_lt_bound : (p : ℕ → Bool) (n : ℕ) → All (λ k. k < n) (filter p (range_with_len 0 n))
selected_lt_bound p n = All-filter p (λ k. k < n) (range_with_len 0 n) (numbers_lt_bound n)

-- what is looked up of part of a list, each after a space
pub spaced_of_mapped : (f : ℕ → Bytes) (ks : List ℕ) (from to : ℕ)
    → flat_map (λ k. 32 ∷ f k) (slice_range ks from to)
    ≡ flat_map (λ (l : Bytes). 32 ∷ l) (slice_range (map f ks) from to)
spaced_of_mapped f ks from to = search (rules, arith, flat_map-map, drop-map, take-map)

-- labels of neighbours, each after a space, are some bytes
pub spaced_has_bytes : (labels : List Bytes) (from to : ℕ) → from < to → to ≤ length labels
    → 0 < length (flat_map (λ (l : Bytes). 32 ∷ l) (slice_range labels from to))
spaced_has_bytes labels from to from_lt_to to_le_length = grind (arith, common_steps)
