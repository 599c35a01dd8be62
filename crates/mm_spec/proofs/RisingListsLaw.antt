-- Rising lists of numbers: one with the same members is the same, and there is one of all numbers
-- below another that have a property, if it is decided.
use Rattle.std.proofs.lemmas.Grind.{common_steps}
use Rattle.std.proofs.Common.{◌≡◌, ℕ, zero, suc, ◌+◌, ◌<◌, ◌≤◌, ◌==◌, true, false, ◌⊎◌, inl, inr}
use Rattle.std.proofs.Common.{List, [], ◌∷◌, get_or, refl, sym, ◌∙◌, subst, arith, true≢false}
use Rattle.std.proofs.Common.{eqb-true, eq-eqb, nat_lt, ◌&&◌}
use Rattle.std.proofs.lemmas.Bool.Decides.{nat_tests}
use Rattle.std.specs.Prelude.{Decides}
use Rattle.std.specs.List.Sorted.{IsStrictlyIncreasing}
use Rattle.std.proofs.lemmas.Bool.{or_cases, or_left, or_right, cases_eq}
use Rattle.mm_spec.specs.Derivation.{is_member}
use Rattle.mm_spec.specs.Laws.Decided.{IsDecided}

rising_tail : (x : ℕ) (xs : List ℕ) → IsStrictlyIncreasing (x ∷ xs) → IsStrictlyIncreasing xs
rising_tail x xs rises k k_lt_length =
    let index_is : suc k + 1 ≡ suc (k + 1) = omega arith in
    subst (λ n. get_or xs k 0 < get_or (x ∷ xs) n 0) index_is (rises (suc k) (omega arith))

-- the first is below the others
first_lt_member : (x : ℕ) (xs : List ℕ) → IsStrictlyIncreasing (x ∷ xs) → (a : ℕ)
    → is_member xs a ≡ true → x < a
first_lt_member x [] rises a is_member_a = absurd (cc)
first_lt_member x (y ∷ ys) rises a is_member_a =
    let x_lt_y = rises 0 (omega arith) in
    elim (or_cases (a == y) (is_member ys a) is_member_a) [
      | inl a_is_y ↦ let equal = eqb-true a y a_is_y in omega arith
      | inr in_tail ↦
          let y_lt_a = first_lt_member y ys (rising_tail x (y ∷ ys) rises) a in_tail in omega arith
    ]

head_is_member : (x : ℕ) (xs : List ℕ) → is_member (x ∷ xs) x ≡ true
head_is_member x xs = or_left (x == x) (is_member xs x) (eq-eqb x x refl)

head_le_member : (x : ℕ) (xs : List ℕ) → IsStrictlyIncreasing (x ∷ xs) → (a : ℕ)
    → is_member (x ∷ xs) a ≡ true → x ≤ a
head_le_member x xs rises a is_member_a =
    grind (arith, nat_tests, or_cases, first_lt_member x xs rises a)

-- the members of a tail are those above the head
tail_members : (x : ℕ) (xs : List ℕ) → IsStrictlyIncreasing (x ∷ xs) → (a : ℕ)
    → is_member xs a ≡ (is_member (x ∷ xs) a && nat_lt x a)
tail_members x xs rises a = grind (arith, nat_tests, first_lt_member x xs rises a)

-- two ascending lists with the same members are the same list
pub equal_if_same_members : (xs ys : List ℕ) → IsStrictlyIncreasing xs → IsStrictlyIncreasing ys
    → ((a : ℕ) → is_member xs a ≡ is_member ys a) → xs ≡ ys
equal_if_same_members [] [] xs_rise ys_rise same = refl
equal_if_same_members [] (y ∷ ys) xs_rise ys_rise same = absurd (cc (same y, head_is_member y ys))
equal_if_same_members (x ∷ xs) [] xs_rise ys_rise same = absurd (cc (same x, head_is_member x xs))
equal_if_same_members (x ∷ xs) (y ∷ ys) xs_rise ys_rise same =
    let y_le_x = head_le_member y ys ys_rise x (sym (same x) ∙ head_is_member x xs) in
    let x_le_y = head_le_member x xs xs_rise y (same y ∙ head_is_member y ys) in
    let heads : x ≡ y = omega arith in
    cc (
      heads,
      equal_if_same_members xs ys (rising_tail x xs xs_rise) (rising_tail y ys ys_rise)
          (λ a. cc (tail_members x xs xs_rise a, tail_members y ys ys_rise a, same a, heads)),
    )

cons_rises : (x : ℕ) (xs : List ℕ) → IsStrictlyIncreasing xs
    → ((a : ℕ) → is_member xs a ≡ true → x < a) → IsStrictlyIncreasing (x ∷ xs)
cons_rises x [] xs_rise x_lt_members k k_lt_length = absurd (omega arith)
cons_rises x (y ∷ ys) xs_rise x_lt_members zero k_lt_length = x_lt_members y (head_is_member y ys)
cons_rises x (y ∷ ys) xs_rise x_lt_members (suc k) k_lt_length = grind (arith, common_steps)

-- a number from i on, below i + n, that has the property
abbrev pub IsInRange : (ℕ → Type 0) → ℕ → ℕ → ℕ → Type 0
IsInRange P i n a = (i ≤ a) × (a < i + n) × P a

abbrev pub IsListOf : (ℕ → Type 0) → ℕ → ℕ → List ℕ → Type 0
IsListOf P i n xs =
    IsStrictlyIncreasing xs × ((a : ℕ) → Decides (is_member xs a) (IsInRange P i n a))

first_or_later : (P : ℕ → Type 0) (i n a : ℕ) → IsInRange P i (suc n) a
    → ((a ≡ i) × P i) ⊎ IsInRange P (suc i) n a
first_or_later P i n a (i_le_a, a_lt_end, holds) = elim (cases_eq a i) [
  | inl a_is_i ↦ inl (a_is_i, subst P a_is_i holds)
  | inr differs ↦ inr (omega arith, omega arith, holds)
]

later_is_in_range : (P : ℕ → Type 0) (i n a : ℕ) → IsInRange P (suc i) n a → IsInRange P i (suc n) a
later_is_in_range P i n a (i_lt_a, a_lt_end, holds) = (omega arith, omega arith, holds)

pub list_of : (P : ℕ → Type 0) → ((a : ℕ) → IsDecided (P a)) → (i n : ℕ)
    → (xs : List ℕ) × IsListOf P i n xs
list_of P each_is_decided i zero = grind (arith, common_steps, true≢false)
list_of P each_is_decided i (suc n) =
    listed (each_is_decided i) (list_of P each_is_decided (suc i) n)
  where
    listed : IsDecided (P i) → (xs : List ℕ) × IsListOf P (suc i) n xs
        → (xs : List ℕ) × IsListOf P i (suc n) xs
    listed (false, decides) (xs, (rises, members)) = (
      xs,
      (
        rises,
        λ a. (
          λ is_member_a. later_is_in_range P i n a ((members a).0 is_member_a),
          λ in_range. elim (first_or_later P i n a in_range) [
            | inl first ↦ absurd (cc (decides.1 first.1))
            | inr later ↦ (members a).1 later
          ],
        ),
      ),
    )
    listed (true, decides) (xs, (rises, members)) = (
      i ∷ xs,
      (
        cons_rises i xs rises (λ a is_member_a. ((members a).0 is_member_a).0),
        λ a. (
          λ is_member_a. elim (or_cases (a == i) (is_member xs a) is_member_a) [
            | inl first ↦
                let a_is_i = eqb-true a i first in
                (omega arith, omega arith, subst P (sym a_is_i) (decides.0 refl))
            | inr later ↦ later_is_in_range P i n a ((members a).0 later)
          ],
          λ in_range. elim (first_or_later P i n a in_range) [
            | inl first ↦ or_left (a == i) (is_member xs a) (eq-eqb a i first.0)
            | inr later ↦ or_right (a == i) (is_member xs a) ((members a).1 later)
          ],
        ),
      ),
    )
