-- A count by lanes is the sum of the counts.
use Rattle.std.proofs.lemmas.Grind.{common_steps}
use Rattle.std.proofs.Common.{◌≡◌, ◌≤◌, ℕ, ◌+◌, List, length, map, take, drop, count_ones, ap}
use Rattle.std.proofs.Common.{arith}
use Rattle.std.proofs.lemmas.List.{drop-drop}
use Rattle.std.proofs.lemmas.List.Sums.{sum_by-take-drop}
use Rattle.std.specs.List.{fold, sum_by}
use lib.Lanes.{fold_l}
use borrow.Rule.Simd.Lanes.{act1, act2}
use borrow.Table.Row.{s_int}
use mir.Syntax.{w32, w64}
use mir.Syntax as mircode

-- what the lanes add up to
abbrev pub lanes_total : List ℕ → ℕ
lanes_total xs =
    fold_l (act2 (mircode.add mircode.unsigned) (s_int w64) (s_int w64) (s_int w64)) 0
    (map (act1 (mircode.cast mircode.unsigned mircode.unsigned w64) (s_int w32) (s_int w64))
    (map (act1 mircode.count_ones (s_int w64) (s_int w32)) xs))

lanes_add_counts : (a : ℕ) (xs : List ℕ)
    → fold_l (act2 (mircode.add mircode.unsigned) (s_int w64) (s_int w64) (s_int w64)) a
    (map (act1 (mircode.cast mircode.unsigned mircode.unsigned w64) (s_int w32) (s_int w64))
    (map (act1 mircode.count_ones (s_int w64) (s_int w32)) xs))
    ≡ fold (λ b x. b + count_ones x) a xs
lanes_add_counts a xs = grind (arith, common_steps, count_ones)

pub lanes_total_is_sum : (xs : List ℕ) → lanes_total xs ≡ sum_by count_ones xs
lanes_total_is_sum xs = lanes_add_counts 0 xs

-- the ones of eight more words are added
pub sum_of_eight_more : (row : List ℕ) (count : ℕ) → count + 8 ≤ length row
    → sum_by count_ones (take (count + 8) row)
    ≡ sum_by count_ones (take count row) + sum_by count_ones (take 8 (drop count row))
sum_of_eight_more row count end_le_length =
    let sum_splits_at = sum_by-take-drop count_ones row count in
    let sum_splits_after = sum_by-take-drop count_ones row (count + 8) in
    let rest_splits = sum_by-take-drop count_ones (drop count row) 8 in
    let dropped_equal = ap (sum_by count_ones) (drop-drop 8 count row) in
    omega (arith, sum_splits_at, sum_splits_after, rest_splits, dropped_equal)
