-- Each number from 1 on has one spelling.
use Rattle.std.proofs.Common.{◌≡◌, ℕ, zero, suc, ◌+◌, ◌*◌, ◌/◌, ◌%◌, ◌^◌, ◌<◌, ◌≤◌, ◌⊎◌, inl, inr}
use Rattle.std.proofs.Common.{List, [], ◌∷◌, ◌++◌, length, codes, refl, sym, ap, ap₂, ◌∙◌, subst}
use Rattle.std.proofs.Common.{arith, rules}
use Rattle.std.proofs.lemmas.Grind.{common_steps}
use Rattle.mm_spec.specs.CompressedProof.{Group, letters_from}
use Rattle.mm_laws.specs.Spelling.{IsEarlyDigit, AreEarlyDigits, AreLettersOf}
use Rattle.mm_laws.specs.Laws.Numerals.{NumbersHaveOneSpelling, BookNumbers}
use Rattle.mm_laws.proofs.SpellingLaw.{group_spells_its_value}

-- ---- one earlier digit more at the end

horner_step_in : (m c p q r d : ℕ) → m ≡ c * p + r → q ≡ 5 * p → 5 * m + d ≡ c * q + (5 * r + d)
horner_step_in m c p q r d m_is q_is = rw (m_is, q_is) (omega arith)

horner_step_out : (n c p q r m d : ℕ) → n ≡ c * q + r → q ≡ 5 * p → r ≡ 5 * m + d
    → n ≡ 5 * (c * p + m) + d
horner_step_out n c p q r m d n_is q_is r_is = rw (n_is, q_is, r_is) (omega arith)

power_of_push : (es : List ℕ) (b : ℕ) → 5 ^ length (es ++ b ∷ []) ≡ 5 * 5 ^ length es
power_of_push es b = grind (arith, common_steps)

early_digits_push : (es : List ℕ) (b m d : ℕ) → AreEarlyDigits es m → IsEarlyDigit b d
    → AreEarlyDigits (es ++ b ∷ []) (5 * m + d)
early_digits_push [] b m d are_early_digits is_early_digit = grind (arith, common_steps)
early_digits_push (e ∷ es) b m d (c, r, is_c, are_later, m_is) is_early_digit = (
  c,
  5 * r + d,
  is_c,
  early_digits_push es b r d are_later is_early_digit,
  horner_step_in m c (5 ^ length es) (5 ^ length (es ++ b ∷ [])) r d m_is (power_of_push es b),
)

early_digits_split : (es : List ℕ) (b n : ℕ) → AreEarlyDigits (es ++ b ∷ []) n
    → (m : ℕ) × (d : ℕ) × AreEarlyDigits es m × IsEarlyDigit b d × (n ≡ 5 * m + d)
early_digits_split [] b n (d, r, is_d, are_none, n_is) = (0, d, refl, is_d, omega arith)
early_digits_split (c ∷ es) b n (e, r, is_e, are_later, n_is) =
    let later = early_digits_split es b r are_later in (
      e * 5 ^ length es + later.0,
      later.1,
      (e, later.0, is_e, later.2, refl),
      later.3,
      horner_step_out n e (5 ^ length es) (5 ^ length (es ++ b ∷ [])) r later.0 later.1 n_is
          (power_of_push es b) later.4,
    )

-- ---- a spelling

early_digit_of_remainder : (k : ℕ) → IsEarlyDigit (84 + suc (k % 5)) (suc (k % 5))
early_digit_of_remainder k = omega arith

early_letters_exist : (fuel n : ℕ) → n < fuel → (es : List ℕ) × AreEarlyDigits es n
early_letters_exist zero n n_lt_fuel = absurd (omega arith)
early_letters_exist (suc fuel) zero n_lt_fuel = ([], refl)
early_letters_exist (suc fuel) (suc k) n_lt_fuel =
    let quotient_letters = early_letters_exist fuel (k / 5) (omega arith) in
    let quotient_and_remainder : 5 * (k / 5) + suc (k % 5) ≡ suc k = omega arith in (
      quotient_letters.0 ++ (84 + suc (k % 5)) ∷ [],
      subst (AreEarlyDigits (quotient_letters.0 ++ (84 + suc (k % 5)) ∷ [])) quotient_and_remainder
          (early_digits_push quotient_letters.0 (84 + suc (k % 5)) (k / 5) (suc (k % 5))
          quotient_letters.1 (early_digit_of_remainder k)),
    )

letters_exist : (n : ℕ) → 1 ≤ n → (letters : List ℕ) × AreLettersOf letters n
letters_exist zero n_ge_1 = absurd (omega arith)
letters_exist (suc k) n_ge_1 =
    let quotient_letters = early_letters_exist (suc (k / 20)) (k / 20) (omega arith) in (
      quotient_letters.0 ++ (64 + suc (k % 20)) ∷ [],
      record {
        early_letters = quotient_letters.0;
        last_letter = 64 + suc (k % 20);
        letters_are = refl;
        early_value = k / 20;
        last_digit = suc (k % 20);
        are_early_digits = quotient_letters.1;
        is_last_digit = record {
          digit_ge_1 = omega arith;
          digit_le_20 = omega arith;
          letter_is = refl;
        };
        value_is = omega arith;
      },
    )

-- ---- no other

empty_or_last : (xs : List ℕ) → (xs ≡ []) ⊎ ((ys : List ℕ) × (y : ℕ) × (xs ≡ ys ++ y ∷ []))
empty_or_last [] = inl refl
empty_or_last (x ∷ xs) = elim (empty_or_last xs) [
  | inl is_nil ↦ inr ([], x, ap (λ zs. x ∷ zs) is_nil)
  | inr (ys, y, xs_are) ↦ inr (x ∷ ys, y, ap (λ zs. x ∷ zs) xs_are)
]

-- letters without a last one and letters with one have different values
not_with_and_without : (n : ℕ) (es fs ys : List ℕ) (y : ℕ) → AreEarlyDigits es n
    → AreEarlyDigits fs n → es ≡ [] → fs ≡ ys ++ y ∷ [] → ⊥
not_with_and_without n es fs ys y es_digits fs_digits es_is_nil fs_are =
    search (rules, arith, early_digits_split)

early_letters_are_unique : (fuel n : ℕ) (es fs : List ℕ) → n < fuel → AreEarlyDigits es n
    → AreEarlyDigits fs n → es ≡ fs
early_letters_are_unique zero n es fs n_lt_fuel es_are_digits fs_are_digits = absurd (omega arith)
early_letters_are_unique (suc fuel) n es fs n_lt_fuel es_digits fs_digits =
    elim (empty_or_last es) [
      | inl es_is_nil ↦ elim (empty_or_last fs) [
        | inl fs_is_nil ↦ es_is_nil ∙ sym fs_is_nil
        | inr (hs, f, fs_are) ↦
            absurd (not_with_and_without n es fs hs f es_digits fs_digits es_is_nil fs_are)
      ]
      | inr (gs, e, es_are) ↦ elim (empty_or_last fs) [
        | inl fs_is_nil ↦
            absurd (not_with_and_without n fs es gs e fs_digits es_digits fs_is_nil es_are)
        | inr (hs, f, fs_are) ↦
            let of_es = early_digits_split gs e n
            (subst (λ xs. AreEarlyDigits xs n) es_are es_digits) in
            let of_fs = early_digits_split hs f n
            (subst (λ xs. AreEarlyDigits xs n) fs_are fs_digits) in
            let es_digit = of_es.3 in
            let fs_digit = of_fs.3 in
            let es_sum = of_es.4 in
            let fs_sum = of_fs.4 in
            let quotients_equal : of_es.0 ≡ of_fs.0 = omega arith in
            let letters_equal : e ≡ f = omega arith in
            es_are ∙ ap₂ (λ xs x. xs ++ x ∷ []) (early_letters_are_unique fuel of_es.0 gs hs
            (omega arith) of_es.2 (subst (AreEarlyDigits hs) (sym quotients_equal) of_fs.2))
            letters_equal ∙ sym fs_are
      ]
    ]

letters_are_unique : (n : ℕ) (xs ys : List ℕ) → AreLettersOf xs n → AreLettersOf ys n → xs ≡ ys
letters_are_unique n xs ys are_xs are_ys =
    let early_values_equal : are_xs.early_value ≡ are_ys.early_value = omega arith in
    let last_letters_equal : are_xs.last_letter ≡ are_ys.last_letter = omega arith in
    are_xs.letters_are ∙ ap₂ (λ zs z. zs ++ z ∷ [])
    (early_letters_are_unique (suc are_xs.early_value) are_xs.early_value are_xs.early_letters
    are_ys.early_letters (omega arith) are_xs.are_early_digits
    (subst (AreEarlyDigits are_ys.early_letters) (sym early_values_equal) are_ys.are_early_digits))
    last_letters_equal
    ∙ sym are_ys.letters_are

pub numbers_have_one_spelling : NumbersHaveOneSpelling
numbers_have_one_spelling n n_ge_1 =
    let spelling = letters_exist n n_ge_1 in (
      spelling.0,
      spelling.1,
      λ other_letters are_letters.
          letters_are_unique n other_letters spelling.0 are_letters spelling.1,
    )

abbrev group_of : List ℕ → ℕ → Group
group_of early last =
    record { early = letters_from 0 early; last = record { at = 0; byte = last } }

-- the numbers that the book shows
pub book_numbers : BookNumbers
book_numbers = (
  group_spells_its_value (group_of [] 65) tt refl,
  group_spells_its_value (group_of [] 84) tt refl,
  group_spells_its_value (group_of (codes "U") 65) (refl, tt) refl,
  group_spells_its_value (group_of (codes "Y") 84) (refl, tt) refl,
  group_spells_its_value (group_of (codes "UU") 65) (refl, (refl, tt)) refl,
  group_spells_its_value (group_of (codes "YY") 84) (refl, (refl, tt)) refl,
  group_spells_its_value (group_of (codes "UUU") 65) (refl, (refl, (refl, tt))) refl,
)
