-- Stretches of a list that grows.
use Rattle.std.proofs.Common.{◌≡◌, ℕ, ◌-◌, ◌≤◌, List, ◌++◌, length, take, drop, slice_range, ap}
use Rattle.std.proofs.Common.{◌∙◌, arith, length-drop}
use Rattle.std.proofs.lemmas.List.{drop-append-le, take-append-le}

-- a stretch of a list is the same stretch of a longer list
pub stretch_of_longer_list : {X : Type 0} (xs added : List X) (s t : ℕ) → s ≤ t → t ≤ length xs
    → slice_range (xs ++ added) s t ≡ slice_range xs s t
stretch_of_longer_list xs added s t s_le_t t_le_length =
    ap (take (t - s)) (drop-append-le s xs added (omega arith))
    ∙ take-append-le (t - s) (drop s xs) added (omega (arith, length-drop s xs))
