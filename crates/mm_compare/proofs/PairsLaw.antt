-- Pairs of distinct variables by their numbers and names.
use Rattle.std.proofs.Common.{rules, ◌≡◌, ℕ, suc, ◌<◌, Bool, true, false, ◌&&◌, List, []}
use Rattle.std.proofs.Common.{◌∷◌, ◌++◌, length, map, get_or, flat_map, slice_get, Some, bytes_eq}
use Rattle.std.proofs.Common.{refl, sym, ap, ◌∙◌, arith, All, true≢false}
use Rattle.std.specs.Prelude.{if◌then◌else◌, nat_lt}
use Rattle.std.proofs.lemmas.Grind.{common_steps}
use Rattle.std.proofs.lemmas.Bool.{or_right, false_from_ne_true, and_from}
use Rattle.std.proofs.lemmas.List.Elements.{All-nil, All-append, All-map, All-filter, All-weaker}
use Rattle.std.proofs.lemmas.List.Elements.{All-tail}
use Rattle.std.proofs.lemmas.List.{get_or-map, length-map}
use Rattle.std.proofs.lemmas.List.FromFn.{length-range_with_len, get_or-range_with_len}
use Rattle.std.proofs.lemmas.Option.{slice_get-get_or, unwrap_or-slice_get}
use Rattle.std.specs.List.{range_with_len, filter, list_all}
use Rattle.mm_spec.specs.Text.{Bytes, is_in}
use Rattle.mm_spec.specs.Statement.{Statement}
use Rattle.mm_spec.specs.Scope.{constants_of, variables_of}
use Rattle.mm_spec.specs.Derivation.{Pair, pair, is_member}
use Rattle.mm_spec.specs.Frame.{symbol_names, first_occurrences, pairs_below}
use Rattle.mm_spec.specs.Frame.{mandatory_variables, mandatory_pairs, disjoint_at}
use Rattle.mm_spec.specs.Assertion.{name_at}
use Rattle.mm_spec.proofs.FindsLaw.{equal_bytes_equal_words}
use Rattle.mm_database.specs.Names.{are_distinct}
use Rattle.mm_database.proofs.SymbolsLaw.{index_of_distinct, bytes_eq_itself}
use Rattle.mm_spec.specs.Comparison.{number_of}
use Rattle.mm_compare.specs.Bounds.{AreSymbolPairs}

-- ---- names of symbols

-- a word that was there before isn't a first occurrence
earlier_is_absent : (ws e : List Bytes) (w : Bytes) → is_in w e ≡ true
    → is_in w (first_occurrences e ws) ≡ false
earlier_is_absent [] e w w_in_e = refl
earlier_is_absent (v ∷ ws) e w w_in_e =
    search (
      rules,
      arith,
      bytes_eq,
      true≢false,
      or_right,
      equal_bytes_equal_words,
      false_from_ne_true,
      (earlier_is_absent ws e w w_in_e),
      (earlier_is_absent ws (v ∷ e) w),
    )

first_occurrences_are_distinct : (ws e : List Bytes)
    → are_distinct (first_occurrences e ws) ≡ true
first_occurrences_are_distinct [] e = refl
first_occurrences_are_distinct (w ∷ ws) e =
    search (
      rules,
      arith,
      earlier_is_absent,
      bytes_eq_itself,
      (first_occurrences_are_distinct ws e),
      (first_occurrences_are_distinct ws (w ∷ e)),
    )

-- a symbol's name has its number
pub number_of_name : (db : List Statement) (x : ℕ) → x < length (symbol_names db)
    → number_of db (name_at db x) ≡ x
number_of_name db x x_lt_count =
    let names = symbol_names db in
    let is_name : slice_get names x ≡ Some (name_at db x) =
    slice_get-get_or names x [] x_lt_count
    ∙ ap (λ w. Some w) (sym (unwrap_or-slice_get names x [])) in
    sym (index_of_distinct names
    (first_occurrences_are_distinct (flat_map (λ s. constants_of s ++ variables_of s) db) [])
    x (name_at db x) is_name)

-- ---- pairs

numbers_lt_bound : (n : ℕ) → All (λ k. k < n) (range_with_len 0 n)
numbers_lt_bound n i d i_lt_length =
    grind (arith, common_steps, length-range_with_len, get_or-range_with_len)

abbrev AreBelow : ℕ → Pair → Type 0
AreBelow n p = (p.low < n) × (p.high < n)

pairs_are_below : (n : ℕ) → All (AreBelow n) (pairs_below n)
pairs_are_below n = all_pairs (range_with_len 0 n) (numbers_lt_bound n)
  where
    with_low : (x : ℕ) → x < n → All (AreBelow n) (map (pair x) (range_with_len 0 n))
    with_low x x_lt_n =
        All-map (AreBelow n) (pair x) (range_with_len 0 n)
        (All-weaker (λ k. k < n) (λ k. AreBelow n (pair x k)) (λ k k_lt_n. (x_lt_n, k_lt_n))
        (range_with_len 0 n) (numbers_lt_bound n))

    all_pairs : (xs : List ℕ) → All (λ k. k < n) xs
        → All (AreBelow n) (flat_map (λ x. map (pair x) (range_with_len 0 n)) xs)
    all_pairs [] xs_below = All-nil (AreBelow n)
    all_pairs (x ∷ xs) xs_below =
        All-append (AreBelow n) (map (pair x) (range_with_len 0 n)) _
        (with_low x (xs_below 0 0 (omega arith)))
        (all_pairs xs (λ i d i_lt_length. xs_below (suc i) d (omega (arith, i_lt_length))))

-- the pair with an index is of symbols
pub pair_is_below : (n : ℕ) (ps : List (ℕ × ℕ)) (i : ℕ) (p : ℕ × ℕ) → i < length ps
    → All (AreBelow n) (map (λ (q : ℕ × ℕ). pair q.0 q.1) ps)
    → ((get_or ps i p).0 < n) × ((get_or ps i p).1 < n)
pair_is_below n ps i p i_lt_length are_below =
    rw (get_or-map (λ (q : ℕ × ℕ). pair q.0 q.1) ps i p (pair p.0 p.1) i_lt_length)
    at (are_below i (pair p.0 p.1) (rw length-map i_lt_length))

-- mandatory pairs are of symbols
pub mandatory_pairs_are_below : (db : List Statement) (k : ℕ)
    → AreSymbolPairs db (mandatory_pairs db k)
mandatory_pairs_are_below db k =
    All-filter _ (AreBelow (length (symbol_names db))) _ (pairs_are_below _)

-- ---- the pairs of an assertion

-- a test that each pair of symbols passes that a `$d` keeps distinct is passed by each of them
selected_cons : {X : Type 0} (c q : X → Bool) (x : X) (xs : List X) (b : Bool)
    → (b ≡ true → q x ≡ true) → list_all q (filter c xs) ≡ true
    → list_all q (if b then (x ∷ filter c xs) else filter c xs) ≡ true
selected_cons c q x xs true passes later = and_from (q x) _ (passes refl) later
selected_cons c q x xs false passes later = later

each_selected : {X : Type 0} (c q : X → Bool) (P : X → Type 0)
    → ((x : X) → P x → c x ≡ true → q x ≡ true) → (xs : List X) → All P xs
    → list_all q (filter c xs) ≡ true
each_selected c q P passes [] all_are = refl
each_selected c q P passes (x ∷ xs) all_are =
    selected_cons c q x xs (c x) (passes x (all_are 0 x (omega arith)))
    (each_selected c q P passes xs (All-tail P x xs all_are))

last_holds : (a b c d : Bool) → (a && b && c && d) ≡ true → d ≡ true
last_holds a b c d all_hold = grind (arith, common_steps)

pub each_pair_is_below : (db : List Statement) (k : ℕ) (q : Pair → Bool)
    → ((p : Pair) → (p.low < length (symbol_names db)) × (p.high < length (symbol_names db))
    → disjoint_at db k p.low p.high ≡ true → q p ≡ true)
    → list_all q (mandatory_pairs db k) ≡ true
each_pair_is_below db k q passes =
    each_selected _ q (AreBelow (length (symbol_names db)))
    (λ p p_below selected. passes p p_below
    (last_holds (nat_lt p.low p.high) (is_member (mandatory_variables db k) p.low)
    (is_member (mandatory_variables db k) p.high) (disjoint_at db k p.low p.high) selected))
    (pairs_below (length (symbol_names db))) (pairs_are_below _)
