-- Assertions with the same frame, word for word, require the same variables to be distinct.
use Rattle.std.proofs.Common.{◌≡◌, ◌∙◌, ℕ, ◌<◌, Bool, true, true≢false, ◌&&◌, List, []}
use Rattle.std.proofs.Common.{◌∷◌, length, sym, refl, ap, ap₂, arith, All}
use Rattle.std.specs.Prelude.{nat_lt}
use Rattle.std.proofs.lemmas.Grind.{common_steps}
use Rattle.std.specs.Cmp.Lexicographic.{pointwise}
use Rattle.std.specs.List.{list_all, AllPass}
use Rattle.std.proofs.lemmas.Bool.{and_parts, and_from, ltb-true, lt-ltb}
use Rattle.std.proofs.lemmas.List.Elements.{All-tail}
use Rattle.std.proofs.lemmas.List.Sums.{AllPass-from_list_all}
use Rattle.std.proofs.lemmas.Slice.Eq.{bytes_eq-Decides}
use Rattle.mm_spec.specs.Statement.{Statement}
use Rattle.mm_spec.specs.Derivation.{Pair}
use Rattle.mm_spec.specs.Frame.{symbol_names, mandatory_pairs, disjoint_at}
use Rattle.mm_spec.specs.Assertion.{name_at}
use Rattle.mm_spec.specs.Comparison.{number_of, is_distinct_there, are_distinct_there}
use Rattle.mm_spec.specs.Comparison.{has_same_name, says_same, are_same_symbols}
use Rattle.mm_spec.specs.Frame.{formula_at}
use Rattle.mm_spec.proofs.FindsLaw.{equal_bytes_equal_words}
use Rattle.mm_compare.proofs.PairsLaw.{number_of_name, each_pair_is_below}
use Rattle.mm_compare.specs.Frames.{is_same_pair, has_same_frame}

-- ---- two lists, element by element

-- what follows for each element of the first list from an element of the second
pointwise_first : {X Y : Type 0} (r : X → Y → Bool) (q : X → Bool) (P : Y → Type 0)
    → ((x : X) (y : Y) → r x y ≡ true → P y → q x ≡ true)
    → (xs : List X) (ys : List Y) → pointwise r xs ys ≡ true → All P ys → list_all q xs ≡ true
pointwise_first r q P follows [] ys same all_are = refl
pointwise_first r q P follows (x ∷ xs) [] same all_are = absurd (true≢false (sym same))
pointwise_first r q P follows (x ∷ xs) (y ∷ ys) same all_are =
    let both = and_parts (r x y) (pointwise r xs ys) same in
    and_from (q x) _ (follows x y both.0 (all_are 0 y (omega arith)))
    (pointwise_first r q P follows xs ys both.1 (All-tail P y ys all_are))

-- the same for each element of the second list
pointwise_second : {X Y : Type 0} (r : X → Y → Bool) (q : Y → Bool) (P : X → Type 0)
    → ((x : X) (y : Y) → r x y ≡ true → P x → q y ≡ true)
    → (xs : List X) (ys : List Y) → pointwise r xs ys ≡ true → All P xs → list_all q ys ≡ true
pointwise_second r q P follows xs [] same all_are = refl
pointwise_second r q P follows [] (y ∷ ys) same all_are = absurd (true≢false (sym same))
pointwise_second r q P follows (x ∷ xs) (y ∷ ys) same all_are =
    let both = and_parts (r x y) (pointwise r xs ys) same in
    and_from (q y) _ (follows x y both.0 (all_are 0 x (omega arith)))
    (pointwise_second r q P follows xs ys both.1 (All-tail P x xs all_are))

-- ---- pairs

-- whether a pair is of symbols that a `$d` keeps distinct
abbrev are_kept_distinct : List Statement → ℕ → Pair → Bool
are_kept_distinct db k p =
    nat_lt p.low (length (symbol_names db))
    && (nat_lt p.high (length (symbol_names db)) && disjoint_at db k p.low p.high)

all_kept_distinct : (db : List Statement) (k : ℕ)
    → AllPass (are_kept_distinct db k) (mandatory_pairs db k)
all_kept_distinct db k =
    AllPass-from_list_all (are_kept_distinct db k) (mandatory_pairs db k)
    (each_pair_is_below db k (are_kept_distinct db k) (λ p below distinct.
    and_from (nat_lt p.low (length (symbol_names db))) _ (lt-ltb _ _ below.0)
    (and_from (nat_lt p.high (length (symbol_names db))) _ (lt-ltb _ _ below.1) distinct)))

-- the number of a symbol with the same name
number_of_same : (db other : List Statement) (x y : ℕ) → has_same_name db other x y ≡ true
    → y < length (symbol_names other) → number_of other (name_at db x) ≡ y
number_of_same db other x y same y_lt_count =
    ap (number_of other) (equal_bytes_equal_words (name_at db x) (name_at other y) same)
    ∙ number_of_name other y y_lt_count

module _ (db other : List Statement) (k j : ℕ)
    (same : pointwise (is_same_pair db other) (mandatory_pairs db k) (mandatory_pairs other j)
    ≡ true) where
  distinct_there : are_distinct_there db other k j ≡ true
  distinct_there =
      pointwise_first (is_same_pair db other) (is_distinct_there db other j)
      (λ q. are_kept_distinct other j q ≡ true) distinct_of _ _ same (all_kept_distinct other j)
    where
      distinct_of : (p q : Pair) → is_same_pair db other p q ≡ true
          → are_kept_distinct other j q ≡ true → is_distinct_there db other j p ≡ true
      distinct_of p q is_same kept =
          let names = and_parts (has_same_name db other p.low q.low) _ is_same in
          let low = and_parts (nat_lt q.low (length (symbol_names other))) _ kept in
          let high = and_parts (nat_lt q.high (length (symbol_names other))) _ low.1 in
          ap₂ (disjoint_at other j)
          (number_of_same db other p.low q.low names.0 (ltb-true _ _ low.0))
          (number_of_same db other p.high q.high names.1 (ltb-true _ _ high.0))
          ∙ high.1

  distinct_back : are_distinct_there other db j k ≡ true
  distinct_back =
      pointwise_second (is_same_pair db other) (is_distinct_there other db k)
      (λ p. are_kept_distinct db k p ≡ true) distinct_of _ _ same (all_kept_distinct db k)
    where
      back : (x y : ℕ) → has_same_name db other x y ≡ true → has_same_name other db y x ≡ true
      back x y is_same =
          (bytes_eq-Decides (name_at other y) (name_at db x)).1
          (sym (equal_bytes_equal_words (name_at db x) (name_at other y) is_same))

      distinct_of : (p q : Pair) → is_same_pair db other p q ≡ true
          → are_kept_distinct db k p ≡ true → is_distinct_there other db k q ≡ true
      distinct_of p q is_same kept =
          let names = and_parts (has_same_name db other p.low q.low) _ is_same in
          let low = and_parts (nat_lt p.low (length (symbol_names db))) _ kept in
          let high = and_parts (nat_lt p.high (length (symbol_names db))) _ low.1 in
          ap₂ (disjoint_at db k)
          (number_of_same other db q.low p.low (back _ _ names.0) (ltb-true _ _ low.0))
          (number_of_same other db q.high p.high (back _ _ names.1) (ltb-true _ _ high.0))
          ∙ high.1

-- two assertions with the same frame say the same if they have the same formula
pub same_by_formula : (db other : List Statement) (k j : ℕ) → has_same_frame db k other j ≡ true
    → says_same db k other j ≡ are_same_symbols db other (formula_at db k) (formula_at other j)
same_by_formula db other k j same =
    let parts = and_parts _ _ same in
    by_parts _ _ _ _ parts.0 (distinct_there db other k j parts.1)
    (distinct_back db other k j parts.1)
  where
    by_parts : (a b c d : Bool) → a ≡ true → c ≡ true → d ≡ true → ((a && b) && (c && d)) ≡ b
    by_parts a b c d a_true c_true d_true = grind (arith, common_steps)
