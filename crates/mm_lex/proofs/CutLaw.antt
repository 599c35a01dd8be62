-- Equal pieces of a text.
use Rattle.std.proofs.Common.{ℕ, ◌+◌, ◌-◌, ◌*◌, ◌/◌, ◌<◌, ◌≤◌, map, arith, rules}
use Rattle.std.specs.List.{range_with_len}
use Rattle.std.proofs.Math.Nat.{div-le_of_le-mul, mul-le-mul_left, mul_comm}
use Rattle.std.proofs.lemmas.List.FromFn.{get_or-map-range_with_len, length-map-range_with_len}
use Rattle.mm_lex.specs.Places.{cut_text, IsCutText}

quotients_keep_order : (x y k : ℕ) → 0 < k → x ≤ y → x / k ≤ y / k
quotients_keep_order x y k k_is_positive x_le_y = grind arith

pub equal_cuts_are_cuts : (len count : ℕ) → 0 < count
    → IsCutText (cut_text (map (λ i. len * (i + 1) / count) (range_with_len 0 (count - 1))) len)
equal_cuts_are_cuts len count count_is_positive =
    search (rules, length-map-range_with_len, get_or-map-range_with_len)
