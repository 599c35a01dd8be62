-- Lists: their later elements, their ends, what they have as members, and ranges of numbers.
use Rattle.std.proofs.Common.{ap₂, refl, ◌+◌, ◌||◌, Bool, false, rules, ◌≡◌, ℕ, zero, suc, ◌<◌, ◌≤◌}
use Rattle.std.proofs.Common.{true, List, [], ◌∷◌, length, get_or, slice_get, None, nat_eq}
use Rattle.std.proofs.Common.{eqb-true, eq-eqb, ap, ◌∙◌, arith}
use Rattle.std.specs.List.{list_any, range_with_len, All, AllPairs, Contains, dedup}
use Rattle.std.proofs.lemmas.Grind.{common_steps}
use Rattle.std.specs.List.Sorted.{IsPermutation}
use Rattle.std.proofs.lemmas.List.Elements.{Contains-get_or}
use Rattle.std.proofs.lemmas.List.Folds.{Any-from_list_any, list_any_at}
use Rattle.std.proofs.lemmas.List.Kept.{Contains-dedup_nat, Contains-from_dedup}
use Rattle.std.proofs.lemmas.List.Sorted.{Contains-permutation, IsPermutation-sym}
use Rattle.mm_spec.specs.Derivation.{is_member}
use Rattle.mm_spec.proofs.BoolLaw.{same_tests}

-- ---- places

pub pairs_head : {X : Type 0} (R : X → X → Type 0) (x : X) (xs : List X) → AllPairs R (x ∷ xs)
    → All (R x) xs
pairs_head R x xs all_pairs = λ j d j_lt_length. all_pairs 0 (suc j) d (omega arith) (omega arith)

pub pairs_tail : {X : Type 0} (R : X → X → Type 0) (x : X) (xs : List X) → AllPairs R (x ∷ xs)
    → AllPairs R xs
pairs_tail R x xs all_pairs =
    λ i j d i_lt_j j_lt_length. all_pairs (suc i) (suc j) d (omega arith) (omega arith)

pub got_none_is_past_end : {X : Type 0} (xs : List X) (n : ℕ) → slice_get xs n ≡ None
    → length xs ≤ n
got_none_is_past_end [] n got_none = omega arith
got_none_is_past_end (x ∷ xs) zero got_none = absurd (cc)
got_none_is_past_end (x ∷ xs) (suc n) got_none =
    let length_le_n = got_none_is_past_end xs n got_none in omega arith

-- ---- members

member_is_contained : (xs : List ℕ) (a : ℕ) → is_member xs a ≡ true → Contains xs a
member_is_contained xs a is_found = grind (arith, common_steps, Any-from_list_any, eqb-true)

contained_is_member : (xs : List ℕ) (a : ℕ) → Contains xs a → is_member xs a ≡ true
contained_is_member xs a contained = grind (arith, common_steps, list_any_at, eq-eqb)

pub element_is_member : (xs : List ℕ) (i d : ℕ) → i < length xs
    → is_member xs (get_or xs i d) ≡ true
element_is_member xs i d i_lt_length = search (rules, arith, contained_is_member, Contains-get_or)

-- sorting and dropping repeated numbers changes no membership
pub sort_and_dedup_keeps_members : (xs ys zs : List ℕ) → IsPermutation xs ys → zs ≡ dedup nat_eq ys
    → (a : ℕ)
    → is_member zs a ≡ is_member xs a
sort_and_dedup_keeps_members xs ys zs is_permutation zs_are_deduped a =
    ap (λ z. is_member z a) zs_are_deduped
    ∙ same_tests _ _
    (λ is_found. contained_is_member xs a
    (Contains-permutation ys xs a (IsPermutation-sym xs ys is_permutation)
    (Contains-from_dedup nat_eq ys a (member_is_contained (dedup nat_eq ys) a is_found))))
    (λ is_found. contained_is_member (dedup nat_eq ys) a
    (Contains-dedup_nat ys a
    (Contains-permutation xs ys a is_permutation (member_is_contained xs a is_found))))

-- if no number below the end of a range passes a test, none of the range does
pub none_passes_no_any : (q : ℕ → Bool) (n a : ℕ) → ((j : ℕ) → j < a + n → q j ≡ false)
    → list_any q (range_with_len a n) ≡ false
none_passes_no_any q zero a none_passes = refl
none_passes_no_any q (suc n) a none_passes =
    ap₂ (λ x y. x || y) (none_passes a (omega arith))
    (none_passes_no_any q n (a + 1) (λ j j_lt_end. none_passes j (omega arith)))
