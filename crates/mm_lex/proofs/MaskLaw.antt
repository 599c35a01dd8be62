-- Bits of masks, and the bytes for which they stand.
use Rattle.std.proofs.lemmas.Grind.{common_steps}
use Rattle.std.proofs.Common.{◌≡◌, ℕ, zero, suc, ◌+◌, ◌-◌, ◌*◌, ◌/◌, ◌%◌, ◌^◌, ◌<◌, ◌≤◌, Bool, true}
use Rattle.std.proofs.Common.{false, cond, List, map, length, take, drop, get_or, refl, sym, ap}
use Rattle.std.proofs.Common.{subst, ◌∙◌, inl, inr, w64, arith, pow_pos, rules}
use Rattle.std.specs.Int.{bit_at, leading_zeros, trailing_zeros}
use Rattle.std.specs.List.{list_all}
use Rattle.std.proofs.lemmas.Nat.{div-add-mod', leading_top}
use Rattle.std.proofs.lemmas.Nat.Bits.{bit_at-trailing_zeros, bit_at-zero, bit_at_above}
use Rattle.std.proofs.lemmas.Nat.Bits.{bit_at_cat_low, bit_at_cat_high}
use Rattle.std.proofs.lemmas.Simd.{bit_mask_l}
use Rattle.std.proofs.lemmas.List.{get_or-map, get_or-take, get_or-drop, get_or_past, length-map}
use Rattle.std.proofs.lemmas.List.{length-take, length-drop}
use Rattle.std.proofs.lemmas.List.Folds.{list_all_more}
use Rattle.std.proofs.lemmas.Bool.{cases_lt}
use Rattle.mm_spec.proofs.BitLaw.{shifted}
use Rattle.mm_bytes.specs.Masks.{mask}

-- ---- the next bit that is 1

bit_of_shifted : (n k i : ℕ) → k ≤ i → bit_at n i ≡ bit_at (n / 2 ^ k) (i - k)
bit_of_shifted n k i k_le_i = search (rules, arith, shifted)

pub no_bits_left : (n k : ℕ) → n / 2 ^ k ≡ 0 → (i : ℕ) → k ≤ i → bit_at n i ≡ 0
no_bits_left n k shifted_is_zero i k_le_i =
    bit_of_shifted n k i k_le_i ∙ ap (λ (x : ℕ). bit_at x (i - k)) shifted_is_zero
    ∙ bit_at-zero (i - k)

module _ (n k : ℕ) (n_lt_2_64 : n < 2 ^ 64) (shifted_lt_2_64 : n / 2 ^ k < 2 ^ 64)
    (shifted_is_positive : 0 < n / 2 ^ k) where
  pub next_bit_is_one : bit_at n (k + trailing_zeros w64 (n / 2 ^ k)) ≡ 1
  next_bit_is_one =
      sym (shifted n k (trailing_zeros w64 (n / 2 ^ k)))
      ∙ (bit_at-trailing_zeros w64 (n / 2 ^ k) shifted_is_positive shifted_lt_2_64).1

  pub zero_bits_before_next : (i : ℕ) → k ≤ i → i < k + trailing_zeros w64 (n / 2 ^ k)
      → bit_at n i ≡ 0
  zero_bits_before_next i k_le_i i_lt_next =
      bit_of_shifted n k i k_le_i
      ∙ (bit_at-trailing_zeros w64 (n / 2 ^ k) shifted_is_positive shifted_lt_2_64).2 (i - k)
      (omega arith)

  pub next_bit_lt_64 : k + trailing_zeros w64 (n / 2 ^ k) < 64
  next_bit_lt_64 = elim (cases_lt (k + trailing_zeros w64 (n / 2 ^ k)) 64) [
    | inl next_lt_64 ↦ next_lt_64
    | inr next_ge_64 ↦
        let bit_is_zero = bit_at_above n 64 (k + trailing_zeros w64 (n / 2 ^ k)) n_lt_2_64
        next_ge_64
        in
        let bit_is_one = next_bit_is_one in absurd (omega arith)
  ]

-- ---- the last bit that is 1

pub low_bits_are_kept : (n k i : ℕ) → i < k → bit_at (n % 2 ^ k) i ≡ bit_at n i
low_bits_are_kept n k i i_lt_k =
    sym (ap (λ (m : ℕ). bit_at m i) (sym (div-add-mod' n (2 ^ k)))
    ∙ bit_at_cat_low (n / 2 ^ k) k (n % 2 ^ k) i i_lt_k)

top_bit_of_power : (m j : ℕ) → 2 ^ j ≤ m → m < 2 ^ suc j → bit_at m j ≡ 1
top_bit_of_power m j power_le_m m_lt_next_power = grind arith

-- the bits up to k, moved to the left end, and what lies left of the first of them that is 1
module _ (n k : ℕ) (k_lt_64 : k < 64) (shifted_is_positive : 0 < n * 2 ^ (63 - k) % 2 ^ 64) where
  highest_moved : (j : ℕ)
      × (leading_zeros w64 (n * 2 ^ (63 - k) % 2 ^ 64) + suc j ≡ 64)
      × (63 - k ≤ j) × (bit_at n (j - (63 - k)) ≡ 1)
  highest_moved =
      let moved = n * 2 ^ (63 - k) in
      let top = leading_top 64 (moved % 2 ^ 64) shifted_is_positive (omega arith) in
      let top_bit_is_one : bit_at moved top.0 ≡ 1 =
      sym (low_bits_are_kept moved 64 top.0 (omega (arith, top.1)))
      ∙ top_bit_of_power (moved % 2 ^ 64) top.0 top.2 top.3 in
      let plus_zero_is : moved + 0 ≡ moved = omega arith in
      let top_bit_of_sum : bit_at (moved + 0) top.0 ≡ 1 =
      ap (λ (m : ℕ). bit_at m top.0) plus_zero_is ∙ top_bit_is_one in
      let shift_le_top : 63 - k ≤ top.0 = elim (cases_lt top.0 (63 - k)) [
        | inl top_lt_shift ↦
            let bit_is_zero = bit_at_cat_low n (63 - k) 0 top.0 top_lt_shift ∙ bit_at-zero top.0 in
            absurd (omega arith)
        | inr shift_le_top ↦ shift_le_top
      ] in (
        top.0,
        top.1,
        shift_le_top,
        sym (bit_at_cat_high n (63 - k) 0 top.0 (pow_pos (63 - k)) shift_le_top) ∙ top_bit_of_sum,
      )

  pub last_place_le_k : leading_zeros w64 (n * 2 ^ (63 - k) % 2 ^ 64) ≤ k
  last_place_le_k = omega (arith, highest_moved.1, highest_moved.2)

  pub last_bit_is_one : bit_at n (k - leading_zeros w64 (n * 2 ^ (63 - k) % 2 ^ 64)) ≡ 1
  last_bit_is_one = search (rules, arith, highest_moved)

-- ---- bits of a block

pub value_one_is_true : (b : Bool) → ◌≡◌ {A = ℕ} (cond b 1 0) 1 → b ≡ true
value_one_is_true b h1 = grind (arith, common_steps)

pub value_zero_is_false : (b : Bool) → ◌≡◌ {A = ℕ} (cond b 1 0) 0 → b ≡ false
value_zero_is_false b h1 = grind (arith, common_steps)

module _ (p : ℕ → Bool) (text : List ℕ) (base : ℕ) where
  pub block_test_in_text : (i : ℕ) → i < 64 → base + i < length text
      → get_or (map p (take 64 (drop base text))) i false ≡ p (get_or text (base + i) 0)
  block_test_in_text i i_lt_64 place_in_text =
      get_or-map p (take 64 (drop base text)) i 0 false
      (omega (arith, length-take {A = ℕ}, length-drop {A = ℕ}))
      ∙ ap p (get_or-take 64 (drop base text) i 0 i_lt_64 ∙ get_or-drop base text i 0)

  block_test_past_text : (i : ℕ) → length text ≤ base + i
      → get_or (map p (take 64 (drop base text))) i false ≡ false
  block_test_past_text i place_past_end =
      get_or_past (map p (take 64 (drop base text))) i false
      (omega (
        arith,
        length-map
            (take 64 (drop base text)) p,
        length-take {A = ℕ},
        length-drop {A = ℕ},
      ))

  pub one_bit_passes_test : (i : ℕ) → i < 64 → bit_at (mask p (take 64 (drop base text))) i ≡ 1
      → (base + i < length text) × (p (get_or text (base + i) 0) ≡ true)
  one_bit_passes_test i i_lt_64 bit_is_one =
      search (rules, arith, value_one_is_true, bit_mask_l, block_test_in_text, block_test_past_text)

  pub zero_bit_fails_block_test : (i : ℕ) → i < 64 → base + i < length text
      → bit_at (mask p (take 64 (drop base text))) i ≡ 0 → p (get_or text (base + i) 0) ≡ false
  zero_bit_fails_block_test i i_lt_64 place_in_text bit_is_zero =
      search (rules, arith, block_test_in_text, value_zero_is_false, bit_mask_l)

  -- no byte of a block whose mask is 0
  pub empty_mask_has_none : mask p (take 64 (drop base text)) ≡ 0 → (i : ℕ) → base ≤ i
      → i < base + 64
      → i < length text → p (get_or text i 0) ≡ false
  empty_mask_has_none mask_is_zero i base_le_i i_lt_block_end i_in_text =
      let place_is_i : base + (i - base) ≡ i = omega arith in
      let test_fails =
      zero_bit_fails_block_test (i - base) (omega arith) (omega arith)
      (ap (λ (n : ℕ). bit_at n (i - base)) mask_is_zero ∙ bit_at-zero (i - base)) in
      subst (λ (k : ℕ). p (get_or text k 0) ≡ false) place_is_i test_fails

-- every byte from a place on
pub range_passes_test : (p : ℕ → Bool) (text : List ℕ) (a n : ℕ) → a + n ≤ length text
    → ((i : ℕ) → a ≤ i → i < a + n → p (get_or text i 0) ≡ true)
    → list_all p (take n (drop a text)) ≡ true
range_passes_test p text a zero range_in_text each_passes = refl
range_passes_test p text a (suc n) range_in_text each_passes =
    let suc_is_plus_one : suc n ≡ n + 1 = omega arith in
    let last_passes : p (get_or (drop a text) n 0) ≡ true =
    ap p (get_or-drop a text n 0) ∙ each_passes (a + n) (omega arith) (omega arith) in
    let earlier_pass : list_all p (take n (drop a text)) ≡ true =
    range_passes_test p text a n (omega arith)
    (λ i a_le_i i_lt_end. each_passes i a_le_i (omega arith)) in
    ap (λ (k : ℕ). list_all p (take k (drop a text))) suc_is_plus_one
    ∙ list_all_more p (drop a text) n 0 (omega (arith, length-drop {A = ℕ}))
    ∙ rw (earlier_pass, last_passes) refl
