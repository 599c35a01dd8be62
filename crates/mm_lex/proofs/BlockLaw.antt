-- What the masks of a block tell of its bytes, and where words begin in it.
use Rattle.std.proofs.Common.{◌≡◌, ℕ, ◌+◌, ◌-◌, ◌*◌, ◌/◌, ◌%◌, ◌^◌, ◌<◌, ◌≤◌, ◌||◌, ◌&&◌, ◌==◌}
use Rattle.std.proofs.Common.{Bool, true, false, not, cond, min, max, List, [], ◌∷◌, map, length}
use Rattle.std.proofs.Common.{take, drop, get_or, refl, sym, ap, ap₂, subst, ◌∙◌, inl, inr, w64}
use Rattle.std.proofs.Common.{true≢false, arith, bit_and, bit_or, if◌then◌else◌, pow_pos, rules}
use Rattle.std.specs.Int.{bit_at, bit_not}
use Rattle.std.specs.List.{list_all}
use Rattle.std.proofs.lemmas.Nat.Bits.{bit_at-zero, bit_at_above, bit_at_not, bit_at_and, bit_at_or}
use Rattle.std.proofs.lemmas.Nat.Bits.{bit_at_lowest, bit_at_cat_low, bit_at_cat_high}
use Rattle.std.proofs.lemmas.Nat.Bits.{bit_at_clear_same, bit_at_clear_other, bit_at-lt}
use Rattle.std.proofs.lemmas.Simd.{bit_mask_l}
use Rattle.std.proofs.lemmas.List.{get_or-drop, length-drop, take_all}
use Rattle.std.proofs.lemmas.Bool.{and_parts, cases_eq, cases_lt, ne_eqb, not-true}
use Rattle.std.proofs.lemmas.Grind.{common_steps}
use Rattle.mm_bytes.specs.Masks.{mask, is_bad}
use Rattle.mm_spec.specs.Bytes.{is_white, is_printable}
use Rattle.mm_spec.specs.Words.{white_at, begins_word, word_at, words_between}
use Rattle.mm_spec.specs.Laws.Words.{IsWord}
use Rattle.mm_spec.specs.Readings.{bytes_of}
use Rattle.mm_spec.specs.Roles.{is_clean}
use Rattle.mm_spec.specs.Text.{has_dollar}
use Rattle.mm_spec.specs.declared.Word.{Word}
use Rattle.mm_spec.proofs.WordsBetweenLaw.{none_begins_after_not_white, words_between_none}
use Rattle.mm_spec.proofs.WordsBetweenLaw.{words_between_skips, words_between_take, word_at_not_white}
use Rattle.mm_spec.proofs.WordsBetweenLaw.{word_at_nonempty}
use Rattle.mm_spec.proofs.WordsLaw.{begins_word_boundary, begins_word_not_white}
use Rattle.mm_spec.proofs.WordsLaw.{word_at_start_is_word}
use Rattle.mm_spec.proofs.BitLaw.{shifted}
use Rattle.mm_lex.specs.Plain.{plain_at, IsPlainWord}
use Rattle.mm_lex.specs.Beginnings.{ArePlain, IsFirstWordStart, IsPassed}
use Rattle.mm_lex.proofs.MaskLaw.{range_passes_test, one_bit_passes_test, empty_mask_has_none}
use Rattle.mm_lex.proofs.MaskLaw.{zero_bit_fails_block_test, block_test_in_text, low_bits_are_kept}
use Rattle.mm_lex.proofs.MaskLaw.{value_one_is_true, value_zero_is_false}

-- ---- bytes at which nothing stops

plain_byte : (w p : Bool) (d : Bool) → w ≡ false → (not w && not p) ≡ false → d ≡ false
    → (p && not d) ≡ true
plain_byte w p d h1 h2 h3 = grind (arith, common_steps, true≢false)

zero_bit_fails_test : (p : ℕ → Bool) (bytes : List ℕ) (i : ℕ) → i < 64 → i < length bytes → (m : ℕ)
    → m ≡ mask p (take 64 bytes) → bit_at m i ≡ 0 → p (get_or bytes i 0) ≡ false
zero_bit_fails_test p bytes i i_lt_64 i_in_bytes m mask_is bit_is_zero =
    let zero_plus_i : 0 + i ≡ i = omega arith in
    subst (λ (k : ℕ). p (get_or bytes k 0) ≡ false) zero_plus_i
    (zero_bit_fails_block_test p bytes 0 i i_lt_64 (omega arith)
    (ap (λ (n : ℕ). bit_at n i) (sym mask_is) ∙ bit_is_zero))

module _ (bytes : List ℕ) (white bad dollars : ℕ)
    (white_is : white ≡ mask is_white (take 64 bytes))
    (bad_is : bad ≡ mask is_bad (take 64 bytes))
    (dollars_are : dollars ≡ mask (λ x. x == 0x24) (take 64 bytes)) where
  no_bits : (i : ℕ) → bit_at (bit_or (bit_or white bad) dollars) i ≡ 0
      → (bit_at white i ≡ 0) × (bit_at bad i ≡ 0) × (bit_at dollars i ≡ 0)
  no_bits i no_stop_at_i = search (rules, arith, bit_at_or)

  pub no_stop_is_not_white : (i : ℕ) → i < 64 → i < length bytes
      → bit_at (bit_or (bit_or white bad) dollars) i ≡ 0 → white_at bytes i ≡ false
  unfolding white_at
  no_stop_is_not_white i i_lt_64 i_in_bytes no_stop_at_i =
      zero_bit_fails_test is_white bytes i i_lt_64 i_in_bytes white white_is
      (no_bits i no_stop_at_i).0

  pub no_stop_is_plain : (i : ℕ) → i < 64 → i < length bytes
      → bit_at (bit_or (bit_or white bad) dollars) i ≡ 0 → plain_at bytes i ≡ true
  unfolding plain_at is_bad
  no_stop_is_plain i i_lt_64 i_in_bytes no_stop_at_i =
      let none = no_bits i no_stop_at_i in
      plain_byte (is_white (get_or bytes i 0)) (is_printable (get_or bytes i 0))
      (get_or bytes i 0 == 0x24)
      (zero_bit_fails_test is_white bytes i i_lt_64 i_in_bytes white white_is none.0)
      (zero_bit_fails_test is_bad bytes i i_lt_64 i_in_bytes bad bad_is none.1)
      (zero_bit_fails_test (λ x. x == 0x24) bytes i i_lt_64 i_in_bytes dollars dollars_are none.2)

-- bytes after a place

pub white_at_dropped : (text : List ℕ) (base i : ℕ)
    → white_at (drop base text) i ≡ white_at text (base + i)
unfolding white_at
white_at_dropped text base i = ap is_white (get_or-drop base text i 0)

pub plain_at_dropped : (text : List ℕ) (base i : ℕ)
    → plain_at (drop base text) i ≡ plain_at text (base + i)
unfolding plain_at
plain_at_dropped text base i =
    ap (λ (b : ℕ). is_printable b && not (b == 0x24)) (get_or-drop base text i 0)

pub taken_dropped_is_all : (text : List ℕ) (base : ℕ)
    → take (length text - base) (drop base text) ≡ drop base text
taken_dropped_is_all text base = grind (arith, common_steps, take_all, length-drop)

pub place_in_dropped : (text : List ℕ) (base i : ℕ) → base + i < length text
    → i < length (drop base text)
place_in_dropped text base i place_in_text = omega (arith, length-drop {A = ℕ})

-- ---- zeros after ones

module _ (white first : ℕ) (white_lt_2_64 : white < 2 ^ 64) (first_le_1 : first ≤ 1) where
  pub first_start_bit : bit_at (bit_and (bit_not w64 white) (bit_or (white * 2 % 2 ^ 64) first)) 0
      ≡ min (1 - bit_at white 0) first
  first_start_bit =
      let negated_bit_is : bit_at (bit_not w64 white) 0 ≡ 1 - bit_at white 0 =
      bit_at_not w64 white 0 white_lt_2_64 (omega arith) in
      let shifted_bit_is_zero : bit_at (white * 2) 0 ≡ 0 =
      bit_at_lowest (white * 2) ∙ omega arith in
      let first_bit_is : bit_at first 0 ≡ first = bit_at_lowest first ∙ omega (arith, first_le_1) in
      let shifted_low_bit_is : bit_at (white * 2 % 2 ^ 64) 0 ≡ 0 =
      low_bits_are_kept (white * 2) 64 0 (omega arith) ∙ shifted_bit_is_zero in
      bit_at_and (bit_not w64 white) (bit_or (white * 2 % 2 ^ 64) first) 0
      ∙ ap₂ min negated_bit_is
      (bit_at_or (white * 2 % 2 ^ 64) first 0 ∙ ap₂ max shifted_low_bit_is first_bit_is
      ∙ omega arith)

  pub next_start_bit : (i : ℕ) → i + 1 < 64
      → bit_at (bit_and (bit_not w64 white) (bit_or (white * 2 % 2 ^ 64) first)) (i + 1)
      ≡ min (1 - bit_at white (i + 1)) (bit_at white i)
  next_start_bit i next_lt_64 =
      let negated_bit_is : bit_at (bit_not w64 white) (i + 1) ≡ 1 - bit_at white (i + 1) =
      bit_at_not w64 white (i + 1) white_lt_2_64 next_lt_64 in
      let pred_is_i : i + 1 - 1 ≡ i = omega arith in
      let plus_zero_is : white * 2 + 0 ≡ white * 2 = omega arith in
      let shifted_bit_is : bit_at (white * 2) (i + 1) ≡ bit_at white i =
      ap (λ (n : ℕ). bit_at n (i + 1)) (sym plus_zero_is)
      ∙ bit_at_cat_high white 1 0 (i + 1) (omega arith) (omega arith)
      ∙ ap (bit_at white) pred_is_i in
      let first_has_no_bit : bit_at first (i + 1) ≡ 0 =
      bit_at_above first 1 (i + 1) (omega (arith, first_le_1)) (omega arith) in
      let shifted_low_bit_is : bit_at (white * 2 % 2 ^ 64) (i + 1) ≡ bit_at white i =
      low_bits_are_kept (white * 2) 64 (i + 1) next_lt_64 ∙ shifted_bit_is in
      bit_at_and (bit_not w64 white) (bit_or (white * 2 % 2 ^ 64) first) (i + 1)
      ∙ ap₂ min negated_bit_is
      (bit_at_or (white * 2 % 2 ^ 64) first (i + 1) ∙ ap₂ max shifted_low_bit_is first_has_no_bit
      ∙ omega arith)

-- the bits from a place on

module _ (n k : ℕ) where
  pub bits_below : (i : ℕ) → i < 64 → i < k → bit_at (n / 2 ^ k * 2 ^ k % 2 ^ 64) i ≡ 0
  bits_below i i_lt_64 i_lt_k =
      let plus_zero_is : n / 2 ^ k * 2 ^ k + 0 ≡ n / 2 ^ k * 2 ^ k = omega arith in
      low_bits_are_kept (n / 2 ^ k * 2 ^ k) 64 i i_lt_64
      ∙ ap (λ (m : ℕ). bit_at m i) (sym plus_zero_is)
      ∙ bit_at_cat_low (n / 2 ^ k) k 0 i i_lt_k ∙ bit_at-zero i

  pub bits_from : (i : ℕ) → i < 64 → k ≤ i → bit_at (n / 2 ^ k * 2 ^ k % 2 ^ 64) i ≡ bit_at n i
  bits_from i i_lt_64 k_le_i =
      let plus_zero_is : n / 2 ^ k * 2 ^ k + 0 ≡ n / 2 ^ k * 2 ^ k = omega arith in
      let place_is_i : k + (i - k) ≡ i = omega arith in
      low_bits_are_kept (n / 2 ^ k * 2 ^ k) 64 i i_lt_64
      ∙ ap (λ (m : ℕ). bit_at m i) (sym plus_zero_is)
      ∙ bit_at_cat_high (n / 2 ^ k) k 0 i (pow_pos k) k_le_i
      ∙ shifted n k (i - k) ∙ ap (bit_at n) place_is_i

  pub kept_bit_is_above_k : (i : ℕ) → i < 64 → bit_at (n / 2 ^ k * 2 ^ k % 2 ^ 64) i ≡ 1
      → (k ≤ i) × (bit_at n i ≡ 1)
  kept_bit_is_above_k i i_lt_64 bit_is_one = search (rules, arith, bits_below, bits_from)

-- ---- where words begin

first_start_test : (w first : Bool)
    → ◌≡◌ {A = ℕ} (if first then 1 - cond w 1 0 else 0) (cond (not w && first) 1 0)
first_start_test w first = grind (arith, common_steps)

next_start_test : (w v : Bool)
    → ◌≡◌ {A = ℕ} (min (1 - cond w 1 0) (cond v 1 0)) (cond (not w && v) 1 0)
next_start_test w v = grind (arith, common_steps)

module _ (text : List ℕ) (base white starts : ℕ) (first : Bool)
    (white_mask_is : white ≡ mask is_white (take 64 (drop base text)))
    (first_may_begin : first ≡ (base == 0 || white_at text (base - 1)))
    (first_bit_is : bit_at starts 0 ≡ (if first then 1 - bit_at white 0 else 0))
    (next_bits_are : (i : ℕ) → i + 1 < 64
    → bit_at starts (i + 1) ≡ min (1 - bit_at white (i + 1)) (bit_at white i)) where
  white_bit : (i : ℕ) → i < 64 → base + i < length text
      → bit_at white i ≡ cond (white_at text (base + i)) 1 0
  unfolding white_at
  white_bit i i_lt_64 place_in_text =
      ap (λ (m : ℕ). bit_at m i) white_mask_is
      ∙ bit_mask_l (map is_white (take 64 (drop base text))) i
      ∙ ap (λ (b : Bool). cond b 1 0)
      (block_test_in_text is_white text base i i_lt_64 place_in_text)

  first_bit_tells_beginning : base < length text
      → bit_at starts 0 ≡ cond (begins_word text base) 1 0
  unfolding begins_word
  first_bit_tells_beginning base_in_text =
      let base_plus_zero : base + 0 ≡ base = omega arith in
      let white_bit_is : bit_at white 0 ≡ cond (white_at text base) 1 0 =
      subst (λ (k : ℕ). bit_at white 0 ≡ cond (white_at text k) 1 0) base_plus_zero
      (white_bit 0 (omega arith) (omega arith)) in
      first_bit_is ∙ ap (λ (n : ℕ). if first then 1 - n else 0) white_bit_is
      ∙ first_start_test (white_at text base) first
      ∙ ap (λ (b : Bool). cond (not (white_at text base) && b) 1 0) first_may_begin

  next_bit_tells_beginning : (i : ℕ) → i + 1 < 64 → base + (i + 1) < length text
      → bit_at starts (i + 1) ≡ cond (begins_word text (base + (i + 1))) 1 0
  unfolding begins_word
  next_bit_tells_beginning i next_lt_64 place_in_text =
      grind (arith, common_steps, ne_eqb, white_bit, next_start_test)

  bit_tells_beginning : (i : ℕ) → i < 64 → base + i < length text
      → bit_at starts i ≡ cond (begins_word text (base + i)) 1 0
  bit_tells_beginning i i_lt_64 place_in_text = elim (cases_lt 0 i) [
    | inl i_is_positive ↦
        let pred_is : i - 1 + 1 ≡ i = omega arith in
        subst (λ (k : ℕ). bit_at starts k ≡ cond (begins_word text (base + k)) 1 0) pred_is
        (next_bit_tells_beginning (i - 1) (omega arith) (omega arith))
    | inr i_le_zero ↦
        let i_is_zero : i ≡ 0 = omega arith in
        let base_is : base + 0 ≡ base = omega arith in
        rw (i_is_zero, base_is) (first_bit_tells_beginning (omega arith))
  ]

  pub one_bit_begins_word : (i : ℕ) → i < 64 → base + i < length text → bit_at starts i ≡ 1
      → begins_word text (base + i) ≡ true
  one_bit_begins_word i i_lt_64 place_in_text bit_is_one =
      search (rules, arith, value_one_is_true, bit_tells_beginning)

  pub zero_bit_begins_none : (i : ℕ) → i < 64 → base + i < length text → bit_at starts i ≡ 0
      → begins_word text (base + i) ≡ false
  zero_bit_begins_none i i_lt_64 place_in_text bit_is_zero =
      search (rules, arith, value_zero_is_false, bit_tells_beginning)

-- ---- a word goes on

module _ (text : List ℕ) (base m : ℕ) (white_mask_is : m ≡ mask is_white (take 64 (drop base text)))
  where
    pub zero_bit_is_not_white : (i : ℕ) → i < 64 → base + i < length text → bit_at m i ≡ 0
        → white_at text (base + i) ≡ false
    unfolding white_at
    zero_bit_is_not_white i i_lt_64 place_in_text bit_is_zero =
        zero_bit_fails_block_test is_white text base i i_lt_64 place_in_text
        (ap (λ (n : ℕ). bit_at n i) (sym white_mask_is) ∙ bit_is_zero)

    pub one_bit_is_white : (i : ℕ) → i < 64 → bit_at m i ≡ 1
        → (base + i < length text) × (white_at text (base + i) ≡ true)
    unfolding white_at
    one_bit_is_white i i_lt_64 bit_is_one =
        one_bit_passes_test is_white text base i i_lt_64
        (ap (λ (n : ℕ). bit_at n i) (sym white_mask_is) ∙ bit_is_one)

-- what holds up to a place holds up to the next bit of a mask
pub holds_up_to_next_bit : (Q : List ℕ → ℕ → Type 0) (t text : List ℕ) (m from at base found : ℕ)
    → t ≡ text
    → base ≤ at → found ≤ 64 → ((i : ℕ) → from ≤ i → i < at → i < length text → Q text i) →
    ((i : ℕ) → at - base ≤ i → i < found → bit_at m i ≡ 0)
    → ((i : ℕ) → i < 64 → base + i < length t → at ≤ base + i → bit_at m i ≡ 0 → Q t (base + i))
    → (i : ℕ) → from ≤ i → i < base + found → i < length text → Q text i
holds_up_to_next_bit Q t text m from at base found texts_equal base_le_at found_le_64
    holds_before_at
    no_bit_before_found zero_bit_tells i from_le_i i_lt_end i_in_text =
    elim (cases_lt i at) [
      | inl i_lt_at ↦ holds_before_at i from_le_i i_lt_at i_in_text
      | inr at_le_i ↦
          let place_is_i : base + (i - base) ≡ i = omega arith in
          let place_in_t : base + (i - base) < length t =
          subst (λ (s : List ℕ). base + (i - base) < length s) (sym texts_equal) (omega arith) in
          subst (λ (s : List ℕ). Q s i) texts_equal
          (subst (Q t) place_is_i
          (zero_bit_tells (i - base) (omega arith) place_in_t (omega arith)
          (no_bit_before_found (i - base) (omega arith) (omega arith))))
    ]

-- no word begins inside one
pub no_word_begins_inside : (text : List ℕ) (start end : ℕ)
    → ((i : ℕ) → start ≤ i → i + 1 < end → white_at text i ≡ false) → (i : ℕ) → start < i
    → i < end → begins_word text i ≡ false
no_word_begins_inside text start end not_white i start_lt_i i_lt_end =
    let place_is_i : i - 1 + 1 ≡ i = omega arith in
    subst (λ (k : ℕ). begins_word text k ≡ false) place_is_i
    (none_begins_after_not_white text (i - 1) (not_white (i - 1) (omega arith) (omega arith)))

-- ---- one beginning less

module _ (n k : ℕ) (k_lt_64 : k < 64) where
  pub other_bits_are_kept : (i : ℕ) → i < 64 → (i ≡ k → ⊥)
      → bit_at (bit_and n (bit_not w64 (1 * 2 ^ k % 2 ^ 64))) i ≡ bit_at n i
  other_bits_are_kept i i_lt_64 i_is_not_k = bit_at_clear_other w64 n k k_lt_64 i i_lt_64 i_is_not_k

  pub remaining_bit_is_other : (i : ℕ) → i < 64
      → bit_at (bit_and n (bit_not w64 (1 * 2 ^ k % 2 ^ 64))) i ≡ 1
      → (i ≡ k → ⊥) × (bit_at n i ≡ 1)
  remaining_bit_is_other i i_lt_64 bit_is_one =
      let i_is_not_k : i ≡ k → ⊥ = λ i_is_k.
      let cleared_bit_is = bit_at_clear_same w64 n k k_lt_64 in
      let zero_is_one = ap (bit_at (bit_and n (bit_not w64 (1 * 2 ^ k % 2 ^ 64)))) i_is_k in
      omega arith in
      (i_is_not_k, sym (other_bits_are_kept i i_lt_64 i_is_not_k) ∙ bit_is_one)

  pub remaining_bits_are_above : ((i : ℕ) → i < k → bit_at n i ≡ 0) → (i : ℕ) → i < 64
      → bit_at (bit_and n (bit_not w64 (1 * 2 ^ k % 2 ^ 64))) i ≡ 1 → k < i
  remaining_bits_are_above no_bit_below_k i i_lt_64 bit_is_one =
      let kept_bit = remaining_bit_is_other i i_lt_64 bit_is_one in
      elim (cases_lt i k) [
        | inl i_lt_k ↦
            let bit_is_zero = no_bit_below_k i i_lt_k in let bit_of_n = kept_bit.1 in
            absurd (omega arith)
        | inr k_le_i ↦ elim (cases_eq i k) [
          | inl i_is_k ↦ absurd (kept_bit.0 i_is_k)
          | inr i_is_not_k ↦ omega arith
        ]
      ]

-- ---- words between places

pub words_between_skip_to : (text : List ℕ) (from upto to : ℕ) → from ≤ upto
    → ((i : ℕ) → from ≤ i → i < upto → i < to → begins_word text i ≡ false)
    → words_between text from to ≡ words_between text upto to
words_between_skip_to text from upto to from_le_upto none_begins =
    elim (cases_lt upto to) [
      | inl upto_lt_to ↦ words_between_skips text (upto - from) from upto to (omega arith)
          (omega arith)
          (λ j from_le_j j_lt_end. none_begins j from_le_j j_lt_end (omega arith))
      | inr to_le_upto ↦ elim (cases_lt from to) [
        | inl from_lt_to ↦ words_between_skips text (to - from) from to to (omega arith)
            (omega arith) (λ j from_le_j j_lt_end. none_begins j from_le_j (omega arith) j_lt_end)
            ∙ words_between_none text to to (omega arith)
            ∙ sym (words_between_none text upto to to_le_upto)
        | inr to_le_from ↦ words_between_none text from to to_le_from
            ∙ sym (words_between_none text upto to to_le_upto)
      ]
    ]

pub no_words_between : (text : List ℕ) (from upto to : ℕ) → from ≤ upto → to ≤ upto
    → ((i : ℕ) → from ≤ i → i < upto → i < to → begins_word text i ≡ false)
    → words_between text from to ≡ []
no_words_between text from upto to from_le_upto to_le_upto none_begins =
    words_between_skip_to text from upto to from_le_upto none_begins
    ∙ words_between_none text upto to to_le_upto

module _ (text : List ℕ) (start end : ℕ) (begins : begins_word text start ≡ true)
    (place_is_in_text : start < length text) (start_le_end : start ≤ end)
    (end_le_length : end ≤ length text)
    (none_is_white : (i : ℕ) → start ≤ i → i < end → white_at text i ≡ false)
    (white_after : end < length text → white_at text end ≡ true) where
  pub found_bytes_are_word : IsWord text (record { start = start; end = end })
  found_bytes_are_word = search (rules, arith, begins_word_not_white, begins_word_boundary)

-- the words that begin from the place `from` on are this one, and those that begin from `upto` on
pub words_begin_with_found : (text : List ℕ) (w : Word) (from upto to : ℕ) → IsWord text w
    → IsFirstWordStart text from to w.start → IsPassed text w.start upto
    → words_between text from to ≡ w ∷ words_between text upto to
words_begin_with_found text w from upto to is_word is_first is_passed =
    words_between_skip_to text from w.start to is_first.from_le_start
    (λ i from_le_i i_lt_start _. is_first.none_before_start i from_le_i i_lt_start)
    ∙ words_between_take text w.start to is_first.start_lt_to is_first.begins
    ∙ ap₂ (λ (v : Word) (ws : List Word). v ∷ ws) (word_at_start_is_word is_word)
    (words_between_skip_to text (w.start + 1) upto to (omega (arith, is_passed.start_lt_from))
    (λ i from_le_i i_lt_start _. is_passed.none_between i (omega arith) i_lt_start))

-- a word of plain bytes
no_byte_no_dollar : (xs : List ℕ) → list_all (λ x. not (x == 0x24)) xs ≡ true → has_dollar xs
    ≡ false
no_byte_no_dollar [] no_byte_is_dollar = refl
no_byte_no_dollar (x ∷ xs) no_byte_is_dollar =
    let first_and_later =
    and_parts (not (x == 0x24)) (list_all (λ y. not (y == 0x24)) xs) no_byte_is_dollar in
    rw (not-true (x == 0x24) first_and_later.0) (no_byte_no_dollar xs first_and_later.1)

pub plain_bytes_are_plain_word : (text : List ℕ) (start end : ℕ) → start ≤ end → end ≤ length text
    → ((i : ℕ) → start ≤ i → i < end → plain_at text i ≡ true)
    → IsPlainWord (bytes_of text (record { start = start; end = end }))
unfolding plain_at is_clean
plain_bytes_are_plain_word text start end start_le_end end_le_length each_is_plain =
    search (rules, arith, range_passes_test, and_parts, no_byte_no_dollar)

-- ---- words that are plain

-- From `from` on up to a white byte at `upto` each byte is white or plain.
module _ (text : List ℕ) (from upto : ℕ) (place_is_in_text : upto < length text)
    (upto_is_white : white_at text upto ≡ true)
    (each_is_plain : (i : ℕ) → from ≤ i → i < upto → white_at text i ≡ false → plain_at text i
    ≡ true) where
  word_ends_before_white : (i : ℕ) → i ≤ upto → (word_at text i).end ≤ upto
  word_ends_before_white i i_le_upto = search (rules, arith, word_at_not_white)

  pub plain_bytes_are_plain_words : ArePlain text from upto
  unfolding word_at
  plain_bytes_are_plain_words i from_le_i i_lt_upto begins =
      let not_white = begins_word_not_white text i begins in
      let end_le_upto = word_ends_before_white i (omega arith) in
      let i_lt_end = word_at_nonempty text i (omega arith) not_white in
      plain_bytes_are_plain_word text i (word_at text i).end (omega (arith, i_lt_end))
      (omega (arith, end_le_upto))
      (λ k i_le_k k_lt_end. each_is_plain k (omega arith) (omega (arith, end_le_upto))
      (word_at_not_white text i k i_le_k k_lt_end))

-- what a block's masks tell of the bytes between two of its bits
module _ (text : List ℕ) (base white stops bit special : ℕ) (white_lt_2_64 : white < 2 ^ 64)
    (white_mask_is : white ≡ mask is_white (take 64 (drop base text)))
    (stops_tell_plain : (i : ℕ) → i < 64 → base + i < length text → bit_at stops i ≡ 0
    → plain_at text (base + i) ≡ true)
    (no_stop_before_special : (i : ℕ) → bit ≤ i → i < special
    → bit_at (bit_and stops (bit_not w64 white)) i ≡ 0) where
  unstopped_byte_is_plain : (i : ℕ) → bit ≤ i → i < special → i < 64 → base + i < length text
      → white_at text (base + i) ≡ false → plain_at text (base + i) ≡ true
  unstopped_byte_is_plain i bit_le_i i_lt_special i_lt_64 place_in_text not_white =
      let negated_bit_is = bit_at_not w64 white i white_lt_2_64 i_lt_64 in
      let both_bits_are = bit_at_and stops (bit_not w64 white) i in
      let no_both = no_stop_before_special i bit_le_i i_lt_special in
      elim (cases_lt 0 (bit_at white i)) [
        | inl bit_is_positive ↦ absurd (true≢false
            (sym (one_bit_is_white text base white white_mask_is i i_lt_64
            (omega (arith, bit_at-lt white i))).1 ∙ not_white))
        | inr bit_is_zero ↦ stops_tell_plain i i_lt_64 place_in_text (omega arith)
      ]

  pub skipped_words_are_plain : (end : ℕ) → end ≤ special → end < 64 → bit_at white end ≡ 1
      → ArePlain text (base + bit) (base + end)
  skipped_words_are_plain end end_le_special end_lt_64 end_is_white =
      let white_at_end =
      one_bit_is_white text base white white_mask_is end end_lt_64 end_is_white in
      plain_bytes_are_plain_words text (base + bit) (base + end) white_at_end.0 white_at_end.1
      (λ k start_le_k k_lt_end not_white.
      let place_is_k : base + (k - base) ≡ k = omega arith in
      subst (λ (i : ℕ). plain_at text i ≡ true) place_is_k
      (unstopped_byte_is_plain (k - base) (omega arith) (omega arith) (omega arith)
      (omega (arith, white_at_end.0))
      (subst (λ (i : ℕ). white_at text i ≡ false) (sym place_is_k) not_white)))

-- before them no word begins
pub plain_with_none_before : (text : List ℕ) (from mid upto : ℕ)
    → ((i : ℕ) → from ≤ i → i < mid → begins_word text i ≡ false) → ArePlain text mid upto
    → ArePlain text from upto
plain_with_none_before text from mid upto none_begins_before_mid plain_from_mid i from_le_i
    i_lt_upto begins = grind arith

-- ---- blocks without a white byte

pub block_not_white : (text : List ℕ) (base m : ℕ)
    → m ≡ mask is_white (take 64 (take (length text - base) (drop base text))) → m ≡ 0
    → base + 64 ≤ length text → (i : ℕ) → base ≤ i → i < base + 64 → white_at text i ≡ false
unfolding white_at
block_not_white text base m mask_is mask_is_zero block_in_text i base_le_i i_lt_block_end =
    let block_mask_is =
    subst (λ (bytes : List ℕ). m ≡ mask is_white (take 64 bytes)) (taken_dropped_is_all text base)
    mask_is in
    empty_mask_has_none is_white text base (sym block_mask_is ∙ mask_is_zero) i base_le_i
    i_lt_block_end
    (omega arith)
