-- Where stretches begin.
use Rattle.std.proofs.Common.{◌≡◌, ℕ, ◌+◌, ◌*◌, ◌<◌, ◌≤◌, arith}
use Rattle.std.proofs.Math.Nat.{lt-mul-div-succ, mul-le-mul_left, mul-zero}
use Rattle.mm_stretches.specs.Stretches.{stretch_start, stretch_count}

-- the first stretch begins with the first number
pub first_start_is_zero : (size count : ℕ) → stretch_start size count 0 ≡ 0
first_start_is_zero size count = let nothing = mul-zero size in omega (arith, nothing)

-- a stretch ends no earlier than it begins
pub start_le_next : (size count index : ℕ)
    → stretch_start size count index ≤ stretch_start size count (index + 1)
start_le_next size count index =
    let later : size * index ≤ size * (index + 1) = mul-le-mul_left size (omega arith) in
    omega (arith, later)

-- the stretches end with the last number
pub last_start_is_count : (size count : ℕ) → 0 < size
    → stretch_start size count (stretch_count size count) ≡ count
last_start_is_count size count size_gt_0 =
    let count_lt_product = lt-mul-div-succ count size_gt_0 in omega (arith, count_lt_product)
