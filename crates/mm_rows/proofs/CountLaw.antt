-- How many bits of a row are set.
use Rattle.std.proofs.lemmas.Bool.Decides.{nat_tests}
use Rattle.std.proofs.Common.{◌≡◌, ℕ, zero, suc, Bool, false, List, min, ◌<◌, ◌≤◌, ◌+◌, ◌*◌, ◌/◌}
use Rattle.std.proofs.Common.{◌%◌, ◌-◌, ◌^◌, length, sym, ap, ap₂, refl, arith, get_or, eqb, take}
use Rattle.std.proofs.Common.{map, sum, cond, count_by, count_ones, ◌∙◌, zero-add}
use Rattle.std.proofs.lemmas.List.{map-id, take_all}
use Rattle.std.proofs.lemmas.List.FromFn.{sum_by-map-range_with_len_more}
use Rattle.std.proofs.lemmas.List.Sums.{sum-map, sum_by_more}
use Rattle.std.proofs.lemmas.Nat.{mod-pow-add, ones_cat, mod_below, pow_pos, ones_le_self}
use Rattle.std.proofs.lemmas.Nat.{zero_from_ones}
use Rattle.std.proofs.lemmas.Nat.Bits.{bit_at-lt}
use Rattle.std.proofs.Math.Nat.{mod-eq_of_lt}
use Rattle.std.specs.Int.{bit_at}
use Rattle.std.specs.List.{range_with_len, sum_by}
use Rattle.std.proofs.lemmas.Grind.{common_steps}
use Rattle.mm_rows.specs.Bits.{is_bit}
use Rattle.mm_rows.proofs.BitLaw.{bit_of_word_at}

-- how many numbers below n pass
abbrev pub tally : (ℕ → Bool) → ℕ → ℕ
tally p n = count_by p (range_with_len 0 n)

pub tally_with_one_more : (p : ℕ → Bool) (n : ℕ) → tally p (suc n) ≡ tally p n + cond (p n) 1 0
tally_with_one_more p n =
    let suc_is_plus_one : suc n ≡ n + 1 = omega arith in
    ap (tally p) suc_is_plus_one ∙ ap (count_by p) (sym (map-id (range_with_len 0 (n + 1))))
    ∙ sum_by-map-range_with_len_more (λ x. cond (p x) 1 0) (λ x. x) 0 n n (zero-add n)
    ∙ ap (λ xs. count_by p xs + cond (p n) 1 0) (map-id (range_with_len 0 n))

pub equal_tests_equal_tallies : (p q : ℕ → Bool) (n : ℕ) → ((k : ℕ) → k < n → p k ≡ q k)
    → tally p n ≡ tally q n
equal_tests_equal_tallies p q zero tests_agree = refl
equal_tests_equal_tallies p q (suc n) tests_agree =
    tally_with_one_more p n
    ∙ ap₂ (λ a b. a + cond b 1 0)
    (equal_tests_equal_tallies p q n (λ k k_lt_n. tests_agree k (omega arith)))
    (tests_agree n (omega arith))
    ∙ sym (tally_with_one_more q n)

nothing_passes_no_tally : (p : ℕ → Bool) (n : ℕ) → ((k : ℕ) → k < n → p k ≡ false) → tally p n ≡ 0
nothing_passes_no_tally p zero none_passes = refl
nothing_passes_no_tally p (suc n) none_passes =
    tally_with_one_more p n
    ∙ ap₂ (λ a b. a + cond b 1 0)
    (nothing_passes_no_tally p n (λ k k_lt_n. none_passes k (omega arith)))
    (none_passes n (omega arith))

tally_of_sum : (p : ℕ → Bool) (n m : ℕ) → tally p (n + m) ≡ tally p n + tally (λ k. p (n + k)) m
tally_of_sum p n zero = grind arith
tally_of_sum p n (suc m) =
    let sum_is : n + suc m ≡ suc (n + m) = omega arith in
    let earlier_sum = tally_of_sum p n m in
    let first_step = tally_with_one_more p (n + m) in
    let second_step = tally_with_one_more (λ k. p (n + k)) m in
    ap (tally p) sum_is ∙ omega (arith, earlier_sum, first_step, second_step)

-- if no number from n on passes, those below n are all that pass
pub tally_of_passing_range : (p : ℕ → Bool) (n m : ℕ) → n ≤ m → ((k : ℕ) → n ≤ k → p k ≡ false)
    → tally p m ≡ tally p n
tally_of_passing_range p n m n_le_m none_passes_from_n =
    let parts_are_m : n + (m - n) ≡ m = omega arith in
    let parts_add = tally_of_sum p n (m - n) in
    let later_are_zero =
    nothing_passes_no_tally (λ k. p (n + k)) (m - n)
    (λ k k_lt_rest. none_passes_from_n (n + k) (omega arith)) in
    ap (tally p) (sym parts_are_m) ∙ omega (arith, parts_add, later_are_zero)

tally_le_range : (p : ℕ → Bool) (n : ℕ) → tally p n ≤ n
tally_le_range p zero = omega arith
tally_le_range p (suc n) = grind (arith, common_steps, tally_with_one_more, (tally_le_range p n))

-- a count below 2 ^ 64 isn't cut off
pub saturated_count_is_tally : (p : ℕ → Bool) (n result : ℕ) → n < 2 ^ 64
    → result ≡ min (tally p n) (2 ^ 64 - 1)
    → result ≡ tally p n
saturated_count_is_tally p n result n_lt_2_64 result_is = grind (arith, nat_tests, tally_le_range)

ones_of_bit_value : (b : ℕ) → b < 2 → count_ones b ≡ cond (eqb b 1) 1 0
ones_of_bit_value b h1 = grind (arith, common_steps, ones_le_self, zero_from_ones)

ones_are_low_bits : (w n : ℕ) → count_ones (w % 2 ^ n) ≡ tally (λ k. eqb (bit_at w k) 1) n
ones_are_low_bits w zero = grind (arith, common_steps)
ones_are_low_bits w (suc n) =
    let suc_is_plus_one : suc n ≡ 1 + n = omega arith in
    let earlier_ones = ones_are_low_bits w n in
    let ones_of_parts = ones_cat n (w / 2 ^ n % 2) (w % 2 ^ n) (mod_below w (2 ^ n) (pow_pos n)) in
    let ones_of_bit = ones_of_bit_value (w / 2 ^ n % 2) (bit_at-lt w n) in
    let one_more = tally_with_one_more (λ k. eqb (bit_at w k) 1) n in
    ap (λ m. count_ones (w % 2 ^ m)) suc_is_plus_one ∙ ap count_ones (mod-pow-add w 1 n)
    ∙ omega (arith, earlier_ones, ones_of_parts, ones_of_bit, one_more)

ones_of_taken_words : (row : List ℕ) → ((k : ℕ) → get_or row k 0 < 2 ^ 64) → (n : ℕ)
    → n ≤ length row
    → sum_by count_ones (take n row) ≡ tally (is_bit row) (64 * n)
ones_of_taken_words row words_lt_2_64 zero n_le_length = refl
ones_of_taken_words row words_lt_2_64 (suc n) n_le_length =
    let suc_is_plus_one : suc n ≡ n + 1 = omega arith in
    let bit_count_is : 64 * suc n ≡ 64 * n + 64 = omega arith in
    let earlier_count = ones_of_taken_words row words_lt_2_64 n (omega arith) in
    let one_more = sum_by_more count_ones row n 0 (omega arith) in
    let ones_of_word : count_ones (get_or row n 0) ≡ tally (λ k. eqb (bit_at (get_or row n 0) k) 1)
    64 =
    ap count_ones (sym (mod-eq_of_lt (words_lt_2_64 n))) ∙ ones_are_low_bits (get_or row n 0) 64 in
    let tallies_agree =
    equal_tests_equal_tallies (λ k. eqb (bit_at (get_or row n 0) k) 1)
    (λ k. is_bit row (64 * n + k)) 64
    (λ k k_lt_64. sym (bit_of_word_at row n k k_lt_64)) in
    let tallies_add = tally_of_sum (is_bit row) (64 * n) 64 in
    ap (λ m. sum_by count_ones (take m row)) suc_is_plus_one
    ∙ omega (arith, earlier_count, one_more, ones_of_word, tallies_agree, tallies_add)
    ∙ ap (tally (is_bit row)) (sym bit_count_is)

-- the ones of all words are counted bit by bit
pub ones_are_bits_set : (row : List ℕ) → ((k : ℕ) → get_or row k 0 < 2 ^ 64)
    → sum (map count_ones row) ≡ tally (is_bit row) (64 * length row)
ones_are_bits_set row words_lt_2_64 =
    let taken_is_row : take (length row) row ≡ row = take_all (length row) row (omega arith) in
    sum-map count_ones row ∙ ap (sum_by count_ones) (sym taken_is_row)
    ∙ ones_of_taken_words row words_lt_2_64 (length row) (omega arith)
