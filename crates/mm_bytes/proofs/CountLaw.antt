-- Counts and first places over a list that is read in pieces.
use Rattle.std.proofs.Common.{◌≡◌, ℕ, ◌+◌, ◌≤◌, Bool, true, false, List, length, take, count_by}
use Rattle.std.proofs.Common.{cond, refl, ap, ◌∙◌, arith, ◌<◌, not, get_or, Some, None, lt-ltb}
use Rattle.std.proofs.Common.{le-ltb, subst, map, ◌^◌, ⊎_elim, w64}
use Rattle.std.proofs.Math.Seq.{take-add}
use Rattle.std.proofs.lemmas.List.Sums.{sum_by-append, prefix_len_is}
use Rattle.std.specs.List.{position, position_or_len, prefix_len}
use Rattle.std.proofs.lemmas.Simd.{length-chunk, trailing_mask_l, none_from_empty_mask}
use Rattle.std.proofs.lemmas.Simd.{run_in_chunk_fails, run_in_chunk_stops}
use Rattle.std.proofs.lemmas.Nat.Bits.{bit_at-trailing_zeros}
use Rattle.std.proofs.lemmas.Bool.{cases_lt}
use lib.Count.{count_trailing_zeros}
use lib.Lanes.{chunk, mask_l}

pub count_by_chunk : {A : Type 0} (p : A → Bool) (i n : ℕ) (xs : List A)
    → count_by p (take (i + n) xs) ≡ count_by p (take i xs) + count_by p (chunk i n xs)
count_by_chunk p i n xs =
    ap (count_by p) (take-add i n xs)
    ∙ sum_by-append (λ x. cond (p x) 1 0) (take i xs) (chunk i n xs)

-- the first place, told by what is known of each
pub position_some : (p : ℕ → Bool) (xs : List ℕ) (i : ℕ) → i < length xs
    → ((k : ℕ) → k < i → p (get_or xs k 0) ≡ false) → p (get_or xs i 0) ≡ true
    → Some i ≡ position p xs
position_some p xs i i_lt_len false_before_i true_at_i =
    let position_is_i : position_or_len p xs ≡ i =
    prefix_len_is (λ x. not (p x)) xs i 0 (omega arith)
    (λ k k_lt_i. ap not (false_before_i k k_lt_i))
    (λ k_lt_i. ap not true_at_i) in
    rw (position_is_i, lt-ltb i (length xs) i_lt_len) refl

pub position_none : (p : ℕ → Bool) (xs : List ℕ)
    → ((k : ℕ) → k < length xs → p (get_or xs k 0) ≡ false) → None ≡ position p xs
position_none p xs false_at_each =
    let position_is_length : position_or_len p xs ≡ length xs =
    prefix_len_is (λ x. not (p x)) xs (length xs) 0 (omega arith)
    (λ k k_lt_len. ap not (false_at_each k k_lt_len))
    (λ k_lt_len. absurd (omega arith)) in
    rw (position_is_length, le-ltb (length xs) (length xs) (omega arith)) refl

-- the first place, where it is in the block of 64 at i, none before which has one
pub position_block : (p : ℕ → Bool) (xs : List ℕ) (i m : ℕ) → i + 64 ≤ length xs
    → ((k : ℕ) → k < i → p (get_or xs k 0) ≡ false) → m ≡ mask_l (map p (chunk i 64 xs))
    → m < 2 ^ 64 → 0 < m →
    Some (i + count_trailing_zeros 64 m) ≡ position p xs
position_block p xs i m block_in_list false_before_i mask_is mask_lt_2_64 mask_is_positive =
    let offset : ℕ = count_trailing_zeros 64 m in
    let block_le_64 : length (chunk i 64 xs) ≤ 64 =
    omega (arith, length-chunk i 64 xs block_in_list) in
    let offset_is_prefix_len : offset ≡ prefix_len (λ x. not (p x)) (chunk i 64 xs) =
    ap (count_trailing_zeros 64) mask_is
    ∙ trailing_mask_l p 64 (chunk i 64 xs) block_le_64
    (subst (λ (n : ℕ). 0 < n) mask_is mask_is_positive) in
    let offset_lt_64 : offset < 64 =
    (bit_at-trailing_zeros w64 m mask_is_positive mask_lt_2_64).0 in
    position_some p xs (i + offset) (omega arith)
    (λ k k_lt_place. ⊎_elim {C = p (get_or xs k 0) ≡ false} (λ k_lt_i. false_before_i k k_lt_i)
    (λ i_le_k. run_in_chunk_fails p xs i 64 offset 0 block_in_list offset_is_prefix_len k i_le_k
    k_lt_place) (cases_lt k i))
    (run_in_chunk_stops p xs i 64 offset 0 block_in_list offset_is_prefix_len offset_lt_64)

-- none in a block of 64
pub none_block : (p : ℕ → Bool) (xs : List ℕ) (i : ℕ) → i + 64 ≤ length xs
    → ((k : ℕ) → k < i → p (get_or xs k 0) ≡ false) → mask_l (map p (chunk i 64 xs)) ≡ 0 →
    (k : ℕ) → k < i + 64 → p (get_or xs k 0) ≡ false
none_block p xs i block_in_list false_before_i mask_is_zero k k_lt_end =
    ⊎_elim {C = p (get_or xs k 0) ≡ false} (λ k_lt_i. false_before_i k k_lt_i)
    (λ i_le_k. none_from_empty_mask p xs i 64 0 block_in_list mask_is_zero k i_le_k k_lt_end)
    (cases_lt k i)
