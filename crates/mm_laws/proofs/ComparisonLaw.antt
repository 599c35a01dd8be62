-- A database compared with itself, what is listed of two, and what is gained.
use Rattle.std.proofs.Common.{◌≡◌, ◌∙◌, ℕ, zero, suc, ◌+◌, ◌<◌, Bool, true, false, ◌&&◌}
use Rattle.std.proofs.Common.{not, List, [], ◌∷◌, length, map, refl, sym, ap, ap₂, arith}
use Rattle.std.proofs.Common.{true≢false, slice_get, Some, ◌==◌}
use Rattle.std.proofs.lemmas.Grind.{common_steps}
use Rattle.std.proofs.lemmas.Bool.{and_parts, and_from, or_left, lt-ltb, eq-eqb}
use Rattle.std.proofs.lemmas.List.Sums.{AllPass-from_list_all}
use Rattle.std.proofs.Math.Bool.{and-true}
use Rattle.std.specs.Bool.{beq}
use Rattle.std.specs.Cmp.{booleans_Decides}
use Rattle.std.specs.List.{list_any, range_with_len, filter}
use Rattle.std.specs.Cmp.Lexicographic.{pointwise}
use Rattle.mm_spec.specs.Text.{Bytes}
use Rattle.mm_spec.specs.Statement.{Statement, axiomatic, provable}
use Rattle.mm_spec.specs.Scope.{statement_at}
use Rattle.mm_spec.specs.Derivation.{Pair, is_member}
use Rattle.mm_spec.specs.Frame.{symbol_names, formula_at, disjoint_at, mandatory_pairs, is_floating}
use Rattle.mm_spec.specs.Frame.{mandatory_hypotheses}
use Rattle.mm_spec.specs.Citation.{is_assertion, is_theorem}
use Rattle.mm_spec.specs.Assertion.{name_at, label_at, has_label, is_axiom_at, is_told}
use Rattle.mm_spec.specs.Output.{is_column}
use Rattle.mm_spec.proofs.FindsLaw.{range_any, passing_statement, statement_passes, got_lt_length}
use Rattle.mm_spec.proofs.FindsLaw.{equal_bytes_equal_words, statement_at_place}
use Rattle.mm_spec.proofs.FindsLaw as finds
use Rattle.mm_spec.proofs.MemberLaw.{member_filter, member_range}
use Rattle.mm_database.proofs.SymbolsLaw.{bytes_eq_itself}
use Rattle.mm_spec.specs.Comparison.{Side, has_same_name, are_same_symbols}
use Rattle.mm_spec.specs.Comparison.{is_same_hypothesis, is_distinct_there, are_distinct_there}
use Rattle.mm_spec.specs.Comparison.{has_same_formulas, says_same, is_same_kind, is_same, is_there}
use Rattle.mm_spec.specs.Comparison.{is_only_in, lines_only_in}
use Rattle.mm_laws.specs.Laws.Comparisons.{hypothesis_words}
use Rattle.mm_laws.specs.Laws.Comparisons.{SayTheSameInWords, HasAllOfItself, RestsOnNothingMore}
use Rattle.mm_laws.specs.Laws.Comparisons.{ExchangedTextsExchangeSections, IsThereOrListed}
use Rattle.mm_laws.specs.Laws.Comparisons.{RestsOnNothingThatIsNotGained}
use Rattle.mm_compare.proofs.PairsLaw.{number_of_name, each_pair_is_below}
use Rattle.mm_compare.proofs.BoundsLaw.{column_is_assertion}

-- ---- lists

pointwise_itself : {X : Type 0} (E : X → X → Bool) → ((x : X) → E x x ≡ true) → (xs : List X)
    → pointwise E xs xs ≡ true
pointwise_itself E same [] = refl
pointwise_itself E same (x ∷ xs) = rw (same x) (pointwise_itself E same xs)

maps_are_equal : {X Y Z : Type 0} (E : X → Y → Bool) (f : X → Z) (g : Y → Z)
    → ((x : X) (y : Y) → E x y ≡ true → f x ≡ g y) → (xs : List X) (ys : List Y)
    → pointwise E xs ys ≡ true → map f xs ≡ map g ys
maps_are_equal E f g equal [] [] same = refl
maps_are_equal E f g equal [] (y ∷ ys) same = absurd (true≢false (sym same))
maps_are_equal E f g equal (x ∷ xs) [] same = absurd (true≢false (sym same))
maps_are_equal {Z = Z} E f g equal (x ∷ xs) (y ∷ ys) same =
    let both = and_parts (E x y) (pointwise E xs ys) same in
    ap₂ (λ (z : Z) (zs : List Z). z ∷ zs) (equal x y both.0)
    (maps_are_equal E f g equal xs ys both.1)

none_passes : (p : ℕ → Bool) (n a : ℕ) → ((k : ℕ) → k < a + n → p k ≡ false)
    → filter p (range_with_len a n) ≡ []
none_passes p zero a fails = refl
none_passes p (suc n) a fails =
    rw (fails a (omega arith)) (none_passes p n (a + 1) (λ k k_lt_end. fails k (omega arith)))

beq_itself : (b : Bool) → beq b b ≡ true
beq_itself true = refl
beq_itself false = refl

-- ---- a statement and itself

module _ (db : List Statement) where
  same_symbols : (xs : List ℕ) → are_same_symbols db db xs xs ≡ true
  same_symbols xs =
      pointwise_itself (has_same_name db db) (λ x. bytes_eq_itself (name_at db x)) xs

  same_hypothesis : (i : ℕ) → is_same_hypothesis db db i i ≡ true
  same_hypothesis i =
      rw (beq_itself (list_any is_floating (statement_at db i))) (same_symbols (formula_at db i))

  distinct_pair : (k : ℕ) (p : Pair) → (p.low < length (symbol_names db))
      × (p.high < length (symbol_names db)) → disjoint_at db k p.low p.high ≡ true
      → is_distinct_there db db k p ≡ true
  distinct_pair k p below distinct =
      rw (number_of_name db p.low below.0, number_of_name db p.high below.1) distinct

  distinct_itself : (k : ℕ) → are_distinct_there db db k k ≡ true
  distinct_itself k = each_pair_is_below db k (is_distinct_there db db k) (distinct_pair k)

  says_same_itself : (k : ℕ) → says_same db k db k ≡ true
  says_same_itself k =
      rw (
        pointwise_itself (is_same_hypothesis db db) same_hypothesis (mandatory_hypotheses db k),
        same_symbols (formula_at db k),
        distinct_itself k,
      ) refl

  has_own_label : (k : ℕ) → list_any is_assertion (statement_at db k) ≡ true
      → has_label db (label_at db k) k ≡ true
  has_own_label k is_one = by_statement found.0 found.1 found.2
    where
      found : (s : Statement) × (slice_get db k ≡ Some s) × (is_assertion s ≡ true)
      found = passing_statement db is_assertion k is_one

      by_statement : (s : Statement) → slice_get db k ≡ Some s → is_assertion s ≡ true
          → has_label db (label_at db k) k ≡ true
      by_statement (axiomatic l p xs d) got s_is_one =
          grind (arith, common_steps, bytes_eq_itself, statement_at_place)
      by_statement (provable l p xs e ps d) got s_is_one =
          grind (arith, common_steps, bytes_eq_itself, statement_at_place)
      by_statement _ got s_is_one = absurd (true≢false (sym s_is_one))

is_same_itself : (s : Side) (k : ℕ) → list_any is_assertion (statement_at s.statements k) ≡ true
    → is_same s k s k ≡ true
is_same_itself s k is_one =
    let db = s.statements in
    and_from (has_label db (label_at db k) k) _ (has_own_label db k is_one)
    (and_from (list_any is_assertion (statement_at db k)) _ is_one
    (and_from (is_same_kind s k s k) _
    (and_from (beq (is_axiom_at db k) (is_axiom_at db k)) _ (beq_itself (is_axiom_at db k))
    (beq_itself (s.is_open k)))
    (says_same_itself db k)))

is_there_itself : (s : Side) (k : ℕ) → k < length s.statements
    → list_any is_assertion (statement_at s.statements k) ≡ true → is_there s k s ≡ true
is_there_itself s k k_lt_length is_one =
    range_any (is_same s k s) (length s.statements) 0 k (omega arith) (omega arith)
    (is_same_itself s k is_one)

pub has_all_of_itself : HasAllOfItself
has_all_of_itself s only =
    none_passes (is_only_in s only s) (length s.statements) 0 not_only
  where
    not_only : (k : ℕ) → k < 0 + length s.statements → is_only_in s only s k ≡ false
    not_only k k_lt_end = by_test (is_told s.statements only k) refl
      where
        by_test : (b : Bool) → is_told s.statements only k ≡ b → (b && not (is_there s k s)) ≡ false
        by_test false is_b = refl
        by_test true is_b =
            ap not (is_there_itself s k (omega arith)
            (and_parts (list_any is_assertion (statement_at s.statements k)) _ is_b).0)

-- ---- what theorems rest on

theorem_is_assertion : (db : List Statement) (n : ℕ)
    → list_any is_theorem (statement_at db n) ≡ true
    → list_any is_assertion (statement_at db n) ≡ true
theorem_is_assertion db n is_one = by_statement found.0 found.1 found.2
  where
    found : (s : Statement) × (slice_get db n ≡ Some s) × (is_theorem s ≡ true)
    found = passing_statement db is_theorem n is_one

    by_statement : (s : Statement) → slice_get db n ≡ Some s → is_theorem s ≡ true
        → list_any is_assertion (statement_at db n) ≡ true
    by_statement (provable l p xs e ps d) got s_is_one =
        statement_passes db is_assertion n _ got refl
    by_statement _ got s_is_one = absurd (true≢false (sym s_is_one))

pub rests_on_nothing_more : RestsOnNothingMore
rests_on_nothing_more request s n [] n_is_theorem are_only = refl
rests_on_nothing_more request s n (a ∷ rest) n_is_theorem are_only =
    let db = s.statements in
    let is_one : list_any is_theorem (statement_at db n) ≡ true =
    (finds.member_filter (λ x. list_any is_theorem (statement_at db x))
    (range_with_len 0 (length db)) n n_is_theorem).0 in
    let only = (are_only.shifted a).0 (or_left (a == a) (is_member rest a) (eq-eqb a a refl)) in
    absurd (only.2 (
      n,
      a,
      is_one,
      has_own_label db n (theorem_is_assertion db n is_one),
      is_same_itself s a (column_is_assertion db request.only a
          (finds.member_filter (λ x. list_any (is_column request.only) (statement_at db x))
          (range_with_len 0 (length db)) a only.0).0),
      only.1,
    ))

-- ---- what is listed

pub is_there_or_listed : IsThereOrListed
is_there_or_listed s t only k k_lt_length is_told_k =
    member_filter (is_only_in s only t) (range_with_len 0 (length s.statements)) k
    ∙ rw (
      member_range (length s.statements) 0 k (omega arith),
      is_told_k,
      lt-ltb k (0 + length s.statements) (omega arith),
    ) (and-true (not (is_there s k t)))

-- ---- words

same_names : (db other : List Statement) (xs ys : List ℕ)
    → are_same_symbols db other xs ys ≡ true → map (name_at db) xs ≡ map (name_at other) ys
same_names db other xs ys same =
    maps_are_equal (has_same_name db other) (name_at db) (name_at other)
    (λ x y is_same_name. equal_bytes_equal_words (name_at db x) (name_at other y) is_same_name)
    xs ys same

same_words : (db other : List Statement) (i j : ℕ) → is_same_hypothesis db other i j ≡ true
    → hypothesis_words db i ≡ hypothesis_words other j
same_words db other i j same =
    let both = and_parts _ (are_same_symbols db other (formula_at db i) (formula_at other j))
    same in
    ap₂ (λ (f : Bool) (ws : List Bytes). record { is_float = f; words = ws })
    ((booleans_Decides _ _).0 both.0)
    (same_names db other (formula_at db i) (formula_at other j) both.1)

pub say_the_same_in_words : SayTheSameInWords
say_the_same_in_words db k other j same =
    let parts = and_parts (has_same_formulas db k other j) _ same in
    let formulas = and_parts _ (are_same_symbols db other (formula_at db k) (formula_at other j))
    parts.0 in
    let pairs = and_parts (are_distinct_there db other k j) _ parts.1 in
    record {
      hypotheses =
          maps_are_equal (is_same_hypothesis db other) (hypothesis_words db)
          (hypothesis_words other) (same_words db other) (mandatory_hypotheses db k)
          (mandatory_hypotheses other j) formulas.0;
      formula = same_names db other (formula_at db k) (formula_at other j) formulas.1;
      distinct =
          AllPass-from_list_all (is_distinct_there db other j) (mandatory_pairs db k) pairs.0;
      distinct_back =
          AllPass-from_list_all (is_distinct_there other db k) (mandatory_pairs other j) pairs.1;
    }

-- ---- the two directions, and what is gained

pub exchanged_texts_exchange_sections : ExchangedTextsExchangeSections
exchanged_texts_exchange_sections request old new bytes are = (
  lines_only_in new request.only old,
  lines_only_in old request.only new,
  are.0,
  are.1,
  are.4,
  (are.1, are.0, are.3, are.2, refl),
)

pub rests_on_nothing_that_is_not_gained : RestsOnNothingThatIsNotGained
rests_on_nothing_that_is_not_gained request old new n a gained are_only is_column not_gained
    not_there rests =
    true≢false (sym ((are_only.shifted a).1 (is_column, rests, not_there)) ∙ not_gained)
