-- Rising lists of numbers.
use Rattle.std.proofs.lemmas.Bool.{cases_Bool, or_cases, lt-ltb, ltb-true}
use Rattle.std.proofs.Common.{rules, ◌≡◌, ◌∙◌, ℕ, ◌+◌, ◌<◌, inl, inr, Bool, true, List, [], ◌∷◌}
use Rattle.std.proofs.Common.{length, sym, refl, arith, true≢false, All, eqb-true, ◌==◌}
use Rattle.std.proofs.lemmas.Grind.{common_steps}
use Rattle.std.proofs.lemmas.Bool.Decides.{nat_tests}
use Rattle.std.specs.List.{filter, range_with_len}
use Rattle.std.specs.List.Sorted.{IsStrictlyIncreasing}
use Rattle.std.proofs.lemmas.List.Elements.{All-tail}
use Rattle.std.proofs.lemmas.List.Kept.{IsStrictlyIncreasing-filter}
use Rattle.std.proofs.lemmas.List.FromFn.{length-range_with_len, get_or-range_with_len}
use Rattle.mm_spec.specs.Statement.{Statement}
use Rattle.mm_spec.specs.Derivation.{is_member}
use Rattle.mm_spec.specs.Frame.{mandatory_hypotheses, symbol_names}
use Rattle.mm_spec.specs.Assertion.{dummies}
use Rattle.mm_spec.proofs.MemberLaw.{member_filter, member_range}
use Rattle.mm_spec.proofs.ListLaw.{element_is_member}
use Rattle.mm_spec.proofs.RisingListsLaw.{equal_if_same_members}
use Rattle.mm_spec.proofs.FindsLaw as finds

range_rises : (n : ℕ) → IsStrictlyIncreasing (range_with_len 0 n)
range_rises n k k_lt_length = grind (arith, nat_tests, length-range_with_len, get_or-range_with_len)

pub filtered_range_rises : (p : ℕ → Bool) (n : ℕ)
    → IsStrictlyIncreasing (filter p (range_with_len 0 n))
filtered_range_rises p n = IsStrictlyIncreasing-filter p (range_with_len 0 n) (range_rises n)

pub member_is_bounded : (n : ℕ) (xs : List ℕ) → All (λ x. x < n) xs → (a : ℕ)
    → is_member xs a ≡ true → a < n
member_is_bounded n [] bounded a is_found = absurd (true≢false (sym is_found))
member_is_bounded n (x ∷ xs) bounded a is_found =
    elim (or_cases (a == x) (is_member xs a) is_found) [
      | inl is_first ↦ omega (arith, eqb-true a x is_first, bounded 0 0 (omega arith))
      | inr is_later ↦
          member_is_bounded n xs (All-tail (λ y. y < n) x xs bounded) a is_later
    ]

pub bounded_by_members : (n : ℕ) (xs : List ℕ) → ((a : ℕ) → is_member xs a ≡ true → a < n)
    → All (λ x. x < n) xs
bounded_by_members n xs members_bounded i d i_lt_length = search (rules, arith, element_is_member)

-- a rising list of numbers below n is that of all that pass a test, if its members are these
pub is_filtered_range : (xs : List ℕ) (p : ℕ → Bool) (n : ℕ) → IsStrictlyIncreasing xs
    → ((x : ℕ) → is_member xs x ≡ p x) → All (λ x. x < n) xs
    → xs ≡ filter p (range_with_len 0 n)
is_filtered_range xs p n rises members_are bounded =
    equal_if_same_members xs (filter p (range_with_len 0 n)) rises (filtered_range_rises p n)
    (λ a. rw (member_filter, ← members_are a) (elim (cases_Bool (is_member xs a)) [
      | inl is_found ↦ rw (
        is_found,
        member_range n 0 a (omega arith),
        lt-ltb a (0 + n)
            (omega (arith, member_is_bounded n xs bounded a is_found)),
      ) refl
      | inr is_absent ↦ rw is_absent refl
    ]))

pub hypotheses_rise : (db : List Statement) (k : ℕ)
    → IsStrictlyIncreasing (mandatory_hypotheses db k)
hypotheses_rise db k = grind (arith, nat_tests, IsStrictlyIncreasing-filter, filtered_range_rises)

pub hypotheses_bounded : (db : List Statement) (k n : ℕ) → k < n
    → All (λ j. j < n) (mandatory_hypotheses db k)
hypotheses_bounded db k n k_lt_n = bounded_by_members n _ (λ j is_found.
    omega (
      arith,
      ltb-true j (0 + k) (sym (member_range k 0 j (omega arith))
          ∙ (finds.member_filter _ _ j (finds.member_filter _ _ j is_found).1).1),
    ))

pub dummies_rise : (db : List Statement) (k : ℕ) → IsStrictlyIncreasing (dummies db k)
dummies_rise db k = grind (arith, common_steps, filtered_range_rises)

pub dummies_bounded : (db : List Statement) (k : ℕ)
    → All (λ x. x < length (symbol_names db)) (dummies db k)
dummies_bounded db k =
    let count = length (symbol_names db) in
    bounded_by_members count (dummies db k) (λ x is_found. omega (
      arith,
      ltb-true x (0 + count)
          (sym (member_range count 0 x (omega arith)) ∙ (finds.member_filter _ _ x is_found).1),
    ))
