-- A list of pairs in order is known by its members.
use Rattle.std.proofs.Common.{rules, ◌≡◌, ℕ, zero, suc, ◌+◌, ◌≤◌, Bool, true, ◌&&◌, List, [], ◌∷◌}
use Rattle.std.proofs.Common.{◌++◌, map, flat_map, nat_eq, refl, sym, ap, ap₂, ◌∙◌, subst, arith}
use Rattle.std.proofs.Common.{eq-eqb, true≢false, ◌⊎◌, inl, inr, nat_cmp}
use Rattle.std.proofs.lemmas.Grind.{common_steps}
use Rattle.std.specs.declared.cmp.Ordering.{Ordering}
use Rattle.std.specs.declared.cmp.Ordering.TheVariants.{Less}
use Rattle.std.proofs.lemmas.Bool.{cases_Bool, cases_order, or_cases, and_parts}
use Rattle.std.proofs.lemmas.Bool.Decides.{nat_tests}
use Rattle.std.specs.List.{Contains, dedup, list_any, range_with_len, AllByRecursion, filter}
use Rattle.std.specs.List.Sorted.{IsPermutation, IsSorted, IsStrictlySortedBy}
use Rattle.std.specs.Ordering.{ordering_then, is_eq}
use Rattle.std.proofs.lemmas.Cmp.{then_total, on_total, nat_cmp_total, and_equiv, on_equiv}
use Rattle.std.proofs.lemmas.Cmp.{nat_eq_equiv}
use Rattle.std.proofs.lemmas.List.Folds.{Any-from_list_any, list_any_at, list_any-append}
use Rattle.std.proofs.lemmas.List.Kept.{IsStrictlySortedBy-dedup, Contains-dedup}
use Rattle.std.proofs.lemmas.List.Kept.{Contains-from_dedup}
use Rattle.std.proofs.lemmas.List.Sorted.{Contains-permutation, IsPermutation-sym}
use Rattle.std.proofs.Math.Bool.{and-false}
use Rattle.mm_spec.specs.Derivation.{Pair, pair, is_member}
use Rattle.mm_spec.specs.Frame.{pairs_below}
use Rattle.mm_spec.proofs.BoolLaw.{same_tests}
use Rattle.mm_database.specs.Pairs.{has_pair, IsBefore, AreRising}

-- a pair that compares as less is before the other
less_is_before : (a b c d : ℕ) → ordering_then (nat_cmp a c) (nat_cmp b d) ≡ Less → IsBefore a b c d
less_is_before a b c d is_less = grind (arith, common_steps, cases_order)

-- numbers are equal exactly if they compare as equal
eq_is_cmp_equal : (a b : ℕ) → nat_eq a b ≡ is_eq (nat_cmp a b)
eq_is_cmp_equal a b = grind (arith, nat_tests)

-- pairs compare by the first number, then by the second
abbrev pair_order : ℕ × ℕ → ℕ × ℕ → Ordering
pair_order x y = ordering_then (nat_cmp x.0 y.0) (nat_cmp x.1 y.1)

-- whether two pairs compare as equal
abbrev same_pair : ℕ × ℕ → ℕ × ℕ → Bool
same_pair x y = nat_eq x.0 y.0 && nat_eq x.1 y.1

-- pairs that compare as equal are equal
same_pair_is_equal : (p q : ℕ × ℕ) → same_pair p q ≡ true → p ≡ q
same_pair_is_equal p q are_same = grind (arith, common_steps)

-- pairs sorted without repetition rise
pub sorted_is_rising : (ys : List (ℕ × ℕ)) → IsStrictlySortedBy pair_order ys → AreRising ys
unfolding IsStrictlySortedBy
sorted_is_rising [] are_sorted = tt
sorted_is_rising (p ∷ ps) are_sorted = (
  λ x y has_pair_x_y. before_all ps are_sorted.0 x y has_pair_x_y,
  sorted_is_rising ps
      are_sorted.1,
)
  where
    before_all : (qs : List (ℕ × ℕ)) → AllByRecursion (λ q. pair_order p q ≡ Less) qs → (x y : ℕ)
        → has_pair qs x y ≡ true → IsBefore p.0 p.1 x y
    before_all [] all_less x y has_pair_x_y = absurd (true≢false (sym has_pair_x_y))
    before_all (q ∷ qs) all_less x y has_pair_x_y =
        elim (or_cases (nat_eq x q.0 && nat_eq y q.1) (has_pair qs x y) has_pair_x_y) [
          | inl is_first ↦ less_is_before p.0 p.1 x y
              (ap (λ (r : ℕ × ℕ). pair_order p r) (same_pair_is_equal (x, y) q is_first)
              ∙ all_less.0)
          | inr is_later ↦ before_all qs all_less.1 x y is_later
        ]

-- sorted pairs rise once repetitions are left out
pub deduped_is_rising : (xs ys : List (ℕ × ℕ)) → IsSorted pair_order xs → ys ≡ dedup same_pair xs
    → AreRising ys
deduped_is_rising xs ys is_sorted ys_are_deduped =
    subst AreRising (sym ys_are_deduped)
    (sorted_is_rising (dedup same_pair xs)
    (IsStrictlySortedBy-dedup
    (then_total (on_total (λ p. p.0) nat_cmp_total) (on_total (λ p. p.1) nat_cmp_total))
    (search (rules, arith, eq_is_cmp_equal, nat_cmp)) xs is_sorted))

-- what the test finds is in the list
contains_from_has_pair : (ps : List (ℕ × ℕ)) (x y : ℕ) → has_pair ps x y ≡ true → Contains ps (x, y)
contains_from_has_pair ps x y has_pair_x_y =
    grind (arith, common_steps, Any-from_list_any, same_pair_is_equal)

-- the test finds what is in the list
has_pair_from_contains : (ps : List (ℕ × ℕ)) (x y : ℕ) → Contains ps (x, y) → has_pair ps x y ≡ true
has_pair_from_contains ps x y contains = grind (arith, common_steps, list_any_at, eq-eqb)

-- sorting and leaving out repetitions keeps the same pairs
pub sorting_keeps_pairs : (xs ys zs : List (ℕ × ℕ)) → IsPermutation xs ys → zs ≡ dedup same_pair ys
    → (x y : ℕ) → has_pair zs x y ≡ has_pair xs x y
sorting_keeps_pairs xs ys zs is_permutation zs_are_deduped x y =
    ap (λ z. has_pair z x y) zs_are_deduped
    ∙ same_tests _ _
    (λ has_pair_z. search (
      has_pair_from_contains,
      Contains-permutation,
      IsPermutation-sym,
      Contains-from_dedup,
      contains_from_has_pair,
    ))
    (λ has_pair_z. has_pair_from_contains (dedup same_pair ys) x y
    (Contains-dedup
    (search (rules, arith, and_equiv, on_equiv, nat_eq_equiv))
    same_pair_is_equal
    ys (x, y) (search (rules, arith, Contains-permutation, contains_from_has_pair))))

-- ---- the pairs of the definitions

-- whether a list has the pair of these symbols
abbrev pub has_symbol_pair : List Pair → ℕ → ℕ → Bool
has_symbol_pair ps x y = list_any (λ p. nat_eq x p.low && nat_eq y p.high) ps

-- each pair is before the next
abbrev pub AreSorted : List Pair → Type 0
AreSorted [] = Unit {0}
AreSorted (p ∷ ps) =
    ((x y : ℕ) → has_symbol_pair ps x y ≡ true → IsBefore p.low p.high x y) × AreSorted ps

-- the pairs of symbols are those of the numbers
pub has_mapped_pair : (ps : List (ℕ × ℕ)) (x y : ℕ)
    → has_symbol_pair (map (λ p. pair p.0 p.1) ps) x y ≡ has_pair ps x y
has_mapped_pair [] x y = refl
has_mapped_pair (p ∷ ps) x y = grind (arith, common_steps, (has_mapped_pair ps x y))

-- rising pairs of numbers are sorted as pairs of symbols
pub mapped_are_sorted : (ps : List (ℕ × ℕ)) → AreRising ps → AreSorted (map (λ p. pair p.0 p.1) ps)
mapped_are_sorted [] are_rising = tt
mapped_are_sorted (p ∷ ps) are_rising =
    grind (arith, common_steps, has_mapped_pair, (mapped_are_sorted ps are_rising.1))

-- the first pair is in the list
first_is_in : (p : Pair) (ps : List Pair) → has_symbol_pair (p ∷ ps) p.low p.high ≡ true
first_is_in p ps = grind (arith, nat_tests)

-- the front of a list, or one of those after
in_first_or_rest : (p : Pair) (ps : List Pair) (x y : ℕ) → has_symbol_pair (p ∷ ps) x y ≡ true
    → ((x ≡ p.low) × (y ≡ p.high)) ⊎ (has_symbol_pair ps x y ≡ true)
in_first_or_rest p ps x y in_list = grind (arith, common_steps, or_cases)

-- a pair of the rest is in the list
in_rest_is_in : (p : Pair) (ps : List Pair) (x y : ℕ) → has_symbol_pair ps x y ≡ true
    → has_symbol_pair (p ∷ ps) x y ≡ true
in_rest_is_in p ps x y in_rest = grind (arith, in_rest)

-- two lists in order with the same members are one
pub sorted_with_same_members_equal : (ps qs : List Pair) → AreSorted ps → AreSorted qs
    → ((x y : ℕ) → has_symbol_pair ps x y ≡ has_symbol_pair qs x y)
    → ps ≡ qs
sorted_with_same_members_equal [] [] ps_sorted qs_sorted same_members = refl
sorted_with_same_members_equal [] (q ∷ qs) ps_sorted qs_sorted same_members =
    absurd (true≢false (sym (first_is_in q qs) ∙ sym (same_members q.low q.high)))
sorted_with_same_members_equal (p ∷ ps) [] ps_sorted qs_sorted same_members =
    absurd (true≢false (sym (first_is_in p ps) ∙ same_members p.low p.high))
sorted_with_same_members_equal (p ∷ ps) (q ∷ qs) ps_sorted qs_sorted same_members =
    ap₂ (λ a b. a ∷ b) firsts_equal
    (sorted_with_same_members_equal ps qs ps_sorted.1 qs_sorted.1 tails_have_same_members)
  where
    firsts_equal : p ≡ q
    firsts_equal =
        elim (in_first_or_rest q qs p.low p.high (search (rules, arith, first_is_in))) [
          | inl (low_is, high_is) ↦ ap₂ pair low_is high_is
          | inr p_in_qs ↦ elim (in_first_or_rest p ps q.low q.high
              (search (rules, arith, first_is_in))) [
                | inl (low_is, high_is) ↦ ap₂ pair (sym low_is) (sym high_is)
                | inr q_in_ps ↦ search (rules, arith)
              ]
        ]

    tails_have_same_members : (x y : ℕ) → has_symbol_pair ps x y ≡ has_symbol_pair qs x y
    tails_have_same_members x y =
        let low_is : p.low ≡ q.low = ap (λ r. r.low) firsts_equal in
        let high_is : p.high ≡ q.high = ap (λ r. r.high) firsts_equal in
        search (rules, arith, same_tests, in_first_or_rest, in_rest_is_in)

-- a filtered list has the pairs that pass the test
pub has_filtered_pair : (t : Pair → Bool) (ps : List Pair) (x y : ℕ)
    → has_symbol_pair (filter t ps) x y ≡ (t (pair x y) && has_symbol_pair ps x y)
has_filtered_pair t [] x y = sym (and-false (t (pair x y)))
has_filtered_pair t (p ∷ ps) x y = search (rules, arith, cases_Bool, (has_filtered_pair t ps x y))

-- sorted pairs stay so when filtered
pub filtered_are_sorted : (t : Pair → Bool) (ps : List Pair) → AreSorted ps
    → AreSorted (filter t ps)
filtered_are_sorted t [] are_sorted = tt
filtered_are_sorted t (p ∷ ps) are_sorted =
    grind (arith, nat_tests, and_parts, has_filtered_pair, (filtered_are_sorted t ps are_sorted.1))

-- a row has the pairs of its symbol with each symbol of the row
has_pair_in_row : (c : ℕ) (xs : List ℕ) (x y : ℕ)
    → has_symbol_pair (map (pair c) xs) x y ≡ (nat_eq x c && is_member xs y)
has_pair_in_row c [] x y = sym (and-false (nat_eq x c))
has_pair_in_row c (z ∷ xs) x y = grind (arith, has_pair_in_row c xs x y)

-- the rows have the pairs of each symbol with each other one
pub has_pair_in_rows : (ys xs : List ℕ) (x y : ℕ)
    → has_symbol_pair (flat_map (λ c. map (pair c) ys) xs) x y ≡ (is_member xs x && is_member ys y)
has_pair_in_rows ys [] x y = refl
has_pair_in_rows ys (c ∷ xs) x y =
    grind (arith, common_steps, list_any-append, has_pair_in_row, (has_pair_in_rows ys xs x y))

-- no number of a range is below its start
start_le_member : (n a x : ℕ) → is_member (range_with_len a n) x ≡ true → a ≤ x
start_le_member zero a x is_member_x = absurd (true≢false (sym is_member_x))
start_le_member (suc n) a x is_member_x = grind (arith, nat_tests, start_le_member n (a + 1) x)

-- two sorted lists, one before the other, are sorted
appended_are_sorted : (ps qs : List Pair) → AreSorted ps → AreSorted qs
    → ((a b x y : ℕ) → has_symbol_pair ps a b ≡ true → has_symbol_pair qs x y ≡ true
    → IsBefore a b x y)
    → AreSorted (ps ++ qs)
appended_are_sorted [] qs ps_sorted qs_sorted ps_before_qs = qs_sorted
appended_are_sorted (p ∷ ps) qs ps_sorted qs_sorted ps_before_qs = (
  λ x y has_either. elim (or_cases (has_symbol_pair ps x y) (has_symbol_pair qs x y)
      (sym (list_any-append _ ps qs) ∙ has_either)) [
        | inl in_ps ↦ ps_sorted.0 x y in_ps
        | inr in_qs ↦ ps_before_qs p.low p.high x y (first_is_in p ps) in_qs
      ],
  appended_are_sorted ps qs ps_sorted.1 qs_sorted
      (search (rules, arith, in_rest_is_in)),
)

-- a row of pairs is sorted
row_is_sorted : (c n a : ℕ) → AreSorted (map (pair c) (range_with_len a n))
row_is_sorted c zero a = tt
row_is_sorted c (suc n) a =
    grind (arith, common_steps, has_pair_in_row, start_le_member, (row_is_sorted c n (a + 1)))

-- the rows, one after the other, are sorted
rows_are_sorted : (m n a : ℕ)
    → AreSorted (flat_map (λ c. map (pair c) (range_with_len 0 m)) (range_with_len a n))
rows_are_sorted m zero a = tt
rows_are_sorted m (suc n) a =
    appended_are_sorted (map (pair a) (range_with_len 0 m))
    (flat_map (λ c. map (pair c) (range_with_len 0 m)) (range_with_len (a + 1) n))
    (row_is_sorted a m 0) (rows_are_sorted m n (a + 1)) (λ p q x y in_row in_rows.
    let is_in_row = sym (has_pair_in_row a (range_with_len 0 m) p q) ∙ in_row in
    let is_in_rows = sym (has_pair_in_rows (range_with_len 0 m) (range_with_len (a + 1) n) x y)
    ∙ in_rows in
    search (rules, arith, start_le_member))

-- the list of all pairs of numbers below n is sorted
pub all_pairs_are_sorted : (n : ℕ) → AreSorted (pairs_below n)
all_pairs_are_sorted n = rows_are_sorted n n 0
