-- What a binary search says of membership.
use Rattle.std.proofs.lemmas.Bool.Decides.{nat_tests}
use Rattle.std.proofs.Common.{◌≡◌, ℕ, suc, ◌<◌, ◌≤◌, inl, inr, true, false, List, [], ◌∷◌, ◌||◌}
use Rattle.std.proofs.Common.{length, get_or, ap, sym, ◌∙◌, subst, refl, arith, nat_cmp}
use Rattle.std.specs.Prelude.{Result, Ok, Err, is_ok}
use Rattle.std.specs.List.Sorted.{IsBinarySearchResult, IsStrictlyIncreasing}
use Rattle.std.proofs.lemmas.List.Sorted.{searched}
use Rattle.std.proofs.lemmas.List.Kept.{AllPairs-from_increasing}
use Rattle.std.proofs.lemmas.Bool.{cases_lt, ne_eqb}
use Rattle.mm_spec.specs.Derivation.{is_member}
use Rattle.mm_spec.proofs.ListLaw.{element_is_member}

absent_is_no_member : (xs : List ℕ) (x : ℕ)
    → ((k : ℕ) → k < length xs → x ≡ get_or xs k 0 → ⊥) → is_member xs x ≡ false
absent_is_no_member [] x absent = refl
absent_is_no_member (y ∷ ys) x absent =
    ap (λ b. b || is_member ys x) (ne_eqb x y (absent 0 (omega arith)))
    ∙ absent_is_no_member ys x (λ k k_lt_length. absent (suc k) (omega arith))

rising_far : (xs : List ℕ) → IsStrictlyIncreasing xs → (i j : ℕ) → i ≤ j → j < length xs
    → get_or xs i 0 ≤ get_or xs j 0
rising_far xs rise i j i_le_j j_lt_length =
    grind (arith, nat_tests, cases_lt, AllPairs-from_increasing)

pub found_is_member : (xs : List ℕ) (x : ℕ) (r : Result ℕ ℕ)
    → IsBinarySearchResult (λ y. nat_cmp y x) xs r → IsStrictlyIncreasing xs
    → is_ok r ≡ is_member xs x
found_is_member xs x (Ok i) is_result rise =
    let found = searched xs x (Ok i) is_result (rising_far xs rise) in
    sym (subst (λ y. is_member xs y ≡ true) found.1 (element_is_member xs i 0 found.0))
found_is_member xs x (Err i) is_result rise =
    let between = searched xs x (Err i) is_result (rising_far xs rise) in
    sym (absent_is_no_member xs x (λ k k_lt_length x_is. elim (cases_lt k i) [
      | inl k_lt_i ↦ omega (arith, between.1 k k_lt_i)
      | inr i_le_k ↦ omega (arith, between.2 k i_le_k k_lt_length)
    ]))
