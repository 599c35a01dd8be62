-- Single bits of rows of words.
use Rattle.std.proofs.Common.{◌≡◌, ◌<◌, ◌≤◌, ◌+◌, ◌*◌, ◌/◌, ◌%◌, ◌^◌, ℕ, true, false, ◌||◌, ◌⊎◌}
use Rattle.std.proofs.Common.{eqb, List, length, get_or, set, bit_or, bit_and, sym, ap, ◌∙◌, min}
use Rattle.std.proofs.Common.{arith, inl, inr, w64}
use Rattle.std.specs.Int.{bit_at}
use Rattle.std.proofs.lemmas.Nat.Bits.{bit_at_set_same, bit_at_set_other, bit_at-lt, bit_at-zero}
use Rattle.std.proofs.lemmas.Nat.Bits.{bit_at_and, same_from_bits, bit_at_above}
use Rattle.std.proofs.lemmas.List.{get_or-set_same, get_or-set_other, get_or_past}
use Rattle.std.proofs.lemmas.Bool.{cases_eq, cases_lt, eq-eqb, ne_eqb}
use Rattle.std.proofs.lemmas.Bool.Decides.{nat_tests}
use Rattle.std.proofs.lemmas.Grind.{common_steps}
use Rattle.mm_bits.specs.Bits.{is_bit, HasBitsOf}

-- the word of row with bit j set
abbrev pub with_bit : List ℕ → ℕ → List ℕ
with_bit row j = set row (j / 64) (bit_or (get_or row (j / 64) 0) (1 * 2 ^ (j % 64) % 2 ^ 64))

pub bit_after_setting : (row : List ℕ) (j k : ℕ) → j / 64 < length row
    → is_bit (with_bit row j) k ≡ (eqb k j || is_bit row k)
bit_after_setting row j k word_in_row =
    let bit_lt_64 : j % 64 < 64 = omega arith in
    elim (cases_eq (k / 64) (j / 64)) [
      | inl words_equal ↦ elim (cases_eq (k % 64) (j % 64)) [
        | inl bits_equal ↦
            let k_is_j : k ≡ j = omega arith in
            rw (
              words_equal,
              get_or-set_same row (j / 64) _ 0 word_in_row,
              bits_equal,
              bit_at_set_same w64 (get_or row (j / 64) 0) (j % 64) bit_lt_64,
              eq-eqb k j k_is_j,
            )
        | inr bits_differ ↦
            let k_is_not_j = ne_eqb k j (λ k_is_j. bits_differ (ap (λ n. n % 64) k_is_j)) in
            rw (
              words_equal,
              get_or-set_same row (j / 64) _ 0 word_in_row,
              bit_at_set_other w64 (get_or row (j / 64) 0) (j % 64) bit_lt_64 (k % 64) bits_differ,
              k_is_not_j,
            )
      ]
      | inr words_differ ↦
          let k_is_not_j = ne_eqb k j (λ k_is_j. words_differ (ap (λ n. n / 64) k_is_j)) in
          rw (get_or-set_other row (j / 64) (k / 64) _ 0 words_differ, k_is_not_j)
    ]

-- bits past the words are not set
pub no_bit_past_words : (row : List ℕ) (j : ℕ) → 64 * length row ≤ j → is_bit row j ≡ false
no_bit_past_words row j row_le_j = grind (arith, common_steps, get_or_past, bit_at-zero)

-- bit b of the word with this index is bit 64 * index + b of the row
pub bit_of_word_at : (row : List ℕ) (word_index b : ℕ) → b < 64
    → is_bit row (64 * word_index + b) ≡ eqb (bit_at (get_or row word_index 0) b) 1
bit_of_word_at row word_index b b_lt_64 = grind arith

-- ---- words with all bits of others

-- the word with this index has each bit that it has in the second row
abbrev pub HasWord : List ℕ → List ℕ → ℕ → Type 0
HasWord row bits k = bit_and (get_or row k 0) (get_or bits k 0) ≡ get_or bits k 0

bit_of_both : (a b i : ℕ) → bit_and a b ≡ b → bit_at b i ≡ 1 → bit_at a i ≡ 1
bit_of_both a b i both is_set =
    let of_and : min (bit_at a i) (bit_at b i) ≡ 1 =
    sym (bit_at_and a b i) ∙ ap (λ n. bit_at n i) both ∙ is_set in
    omega (arith, of_and, bit_at-lt a i, is_set)

pub has_bits_if_words : (row bits : List ℕ) → ((k : ℕ) → k < length bits → HasWord row bits k)
    → HasBitsOf row bits
has_bits_if_words row bits has_words j is_set = by (cases_lt (j / 64) (length bits))
  where
    by : (j / 64 < length bits) ⊎ (length bits ≤ j / 64) → is_bit row j ≡ true
    by (inl lt) =
        let bit = bit_of_both (get_or row (j / 64) 0) (get_or bits (j / 64) 0) (j % 64)
        (has_words (j / 64) lt) (grind (arith, nat_tests)) in
        grind (arith, nat_tests)
    by (inr le) =
        let none = no_bit_past_words bits j (omega (arith, le)) in
        absurd cc

pub has_word_if_bits : (row bits : List ℕ) (k : ℕ) → get_or bits k 0 < 2 ^ 64
    → HasBitsOf row bits → HasWord row bits k
has_word_if_bits row bits k small has_bits =
    same_from_bits _ _ (λ i. by i (cases_lt i 64))
  where
    has_bit : (i : ℕ) → i < 64 → bit_at (get_or bits k 0) i ≡ 1
        → bit_at (get_or row k 0) i ≡ 1
    has_bit i i_lt is_set =
        let has = has_bits (64 * k + i) (bit_of_word_at bits k i i_lt ∙ eq-eqb _ _ is_set) in
        let bit : eqb (bit_at (get_or row k 0) i) 1 ≡ true = sym (bit_of_word_at row k i i_lt) ∙ has in
        grind (arith, nat_tests)

    by : (i : ℕ) → (i < 64) ⊎ (64 ≤ i)
        → bit_at (bit_and (get_or row k 0) (get_or bits k 0)) i ≡ bit_at (get_or bits k 0) i
    by i (inl lt) =
        bit_at_and (get_or row k 0) (get_or bits k 0) i
        ∙ both (cases_eq (bit_at (get_or bits k 0) i) 1)
      where
        both : (bit_at (get_or bits k 0) i ≡ 1) ⊎ (bit_at (get_or bits k 0) i ≡ 1 → ⊥)
            → min (bit_at (get_or row k 0) i) (bit_at (get_or bits k 0) i)
            ≡ bit_at (get_or bits k 0) i
        both (inl is_set) = omega (arith, is_set, has_bit i lt is_set)
        both (inr is_unset) = omega (arith, bit_at-lt (get_or bits k 0) i, is_unset)
    by i (inr le) =
        bit_at_and (get_or row k 0) (get_or bits k 0) i
        ∙ omega (arith, bit_at_above (get_or bits k 0) 64 i small le)
