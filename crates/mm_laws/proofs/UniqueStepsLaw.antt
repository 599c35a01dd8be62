-- The words of a proof name no other steps than those that it has.
use Rattle.std.proofs.lemmas.Bool.Decides.{nat_tests}
use Rattle.std.proofs.Common.{◌≡◌, ℕ, zero, suc, ◌+◌, ◌<◌, Bool, inl, inr, List, [], ◌∷◌, ◌++◌}
use Rattle.std.proofs.Common.{length, count_by, Some, slice_get, refl, sym, ap, ap₂, ◌∙◌, subst}
use Rattle.std.proofs.Common.{arith, rules}
use Rattle.mm_spec.specs.Steps.{Step, label, marked}
use Rattle.mm_laws.specs.Spelling.{Item, number, mark, is_number, is_mark_item, IsMark, NamesStep}
use Rattle.mm_laws.specs.Laws.NamedSteps.{NamedStepsAreUnique}
use Rattle.mm_laws.proofs.SpelledStepsLaw.{count_append}
use Rattle.std.proofs.lemmas.Option.{same_Some, slice_get_within}
use Rattle.std.proofs.lemmas.Grind.{common_steps}

tail_counts_equal : (p : Item → Bool) (x : Item) (b c : List Item)
    → count_by p (x ∷ b) ≡ count_by p (x ∷ c)
    → count_by p b ≡ count_by p c
tail_counts_equal p x b c counts_equal = grind (arith, common_steps)

no_mark_before : (b : List Item) (x : Item) → x ≡ mark → ¬ (0 ≡ count_by is_mark_item (x ∷ b))
no_mark_before b x x_is_mark count_is_0 = grind (arith, common_steps)

fronts_equal : (b c d e : List Item) → b ++ mark ∷ d ≡ c ++ mark ∷ e
    → count_by is_mark_item b ≡ count_by is_mark_item c → b ≡ c
fronts_equal [] [] d e lists_equal mark_counts_equal = refl
fronts_equal [] (x ∷ c) d e lists_equal mark_counts_equal = grind (arith, nat_tests, no_mark_before)
fronts_equal (x ∷ b) [] d e lists_equal mark_counts_equal = grind (arith, nat_tests, no_mark_before)
fronts_equal (x ∷ b) (y ∷ c) d e lists_equal mark_counts_equal =
    let heads_equal : x ≡ y = cc in
    let tails_equal : b ++ mark ∷ d ≡ c ++ mark ∷ e = cc in
    ap₂ (λ z zs. z ∷ zs) heads_equal (fronts_equal b c d e tails_equal
    (tail_counts_equal is_mark_item y b c (ap (λ z. count_by is_mark_item (z ∷ b)) (sym heads_equal)
    ∙ mark_counts_equal)))

-- mark k stands after one step
marked_step_is_unique : (items : List Item) (k i j : ℕ) → IsMark items k i → IsMark items k j
    → i ≡ j
marked_step_is_unique items k i j marks_i marks_j = search (rules, arith, fronts_equal)

elements_equal : (xs : List ℕ) (i j x y : ℕ) → i ≡ j → slice_get xs i ≡ Some x
    → slice_get xs j ≡ Some y
    → x ≡ y
elements_equal xs i j x y i_is_j x_is_at_i y_is_at_j = search (rules, arith, same_Some, slice_get)

-- a number names one step
named_step_is_unique : (hypotheses labels : List ℕ) (before : List Item) (n : ℕ) (s t : Step)
    → NamesStep hypotheses labels before n s → NamesStep hypotheses labels before n t → s ≡ t
named_step_is_unique hs ls before n (label i) (label j) (inl (a, n_is, at_a)) (inl
    (b, m_is, at_b)) =
    ap label (elements_equal hs a b i j (omega arith) at_a at_b)
named_step_is_unique hs ls before n (label i) (label j) (inr (a, n_is, at_a)) (inr
    (b, m_is, at_b)) =
    ap label (elements_equal ls a b i j (omega arith) at_a at_b)
named_step_is_unique hs ls before n (label i) (label j) (inl (a, n_is, at_a)) (inr
    (b, m_is, at_b)) =
    absurd (omega (arith, slice_get_within hs a i at_a))
named_step_is_unique hs ls before n (label i) (label j) (inr (a, n_is, at_a)) (inl
    (b, m_is, at_b)) =
    absurd (omega (arith, slice_get_within hs b j at_b))
named_step_is_unique hs ls before n (label i) (marked j) (inl (a, n_is, at_a)) (b, m_is, _) =
    absurd (omega (arith, slice_get_within hs a i at_a))
named_step_is_unique hs ls before n (label i) (marked j) (inr (a, n_is, at_a)) (b, m_is, _) =
    absurd (omega (arith, slice_get_within ls a i at_a))
named_step_is_unique hs ls before n (marked i) (label j) (a, n_is, _) (inl (b, m_is, at_b)) =
    absurd (omega (arith, slice_get_within hs b j at_b))
named_step_is_unique hs ls before n (marked i) (label j) (a, n_is, _) (inr (b, m_is, at_b)) =
    absurd (omega (arith, slice_get_within ls b j at_b))
named_step_is_unique hs ls before n (marked i) (marked j) (a, n_is, marks_i) (b, m_is, marks_j) =
    let a_is_b : a ≡ b = omega arith in
    ap marked (marked_step_is_unique before b i j (subst (λ k. IsMark before k i) a_is_b marks_i)
    marks_j)

-- a number of the items, with so many before it
record IsNth (items : List Item) (i : ℕ) : Type 0 where
  pub items_before : List Item
  pub items_after : List Item
  pub n : ℕ
  pub items_are : items ≡ items_before ++ number n ∷ items_after
  pub number_count_is : count_by is_number items_before ≡ i

nth_later : (x : Item) (items : List Item) (i j : ℕ) → count_by is_number (x ∷ []) + i ≡ j
    → IsNth items i → IsNth (x ∷ items) j
nth_later x items i j count_is nth = record {
  items_before = x ∷ nth.items_before;
  items_after = nth.items_after;
  n = nth.n;
  items_are = ap (λ xs. x ∷ xs) nth.items_are;
  number_count_is = omega (
    arith,
    nth.number_count_is,
    count_append is_number (x ∷ []) nth.items_before,
  );
}

number_at : (items : List Item) (i : ℕ) → i < count_by is_number items → IsNth items i
number_at [] i i_lt_count = absurd (omega arith)
number_at (number n ∷ items) zero i_lt_count =
    record {
      items_before = [];
      items_after = items;
      n = n;
      items_are = refl;
      number_count_is = refl;
    }
number_at (number n ∷ items) (suc i) i_lt_count =
    nth_later (number n) items i (suc i) (omega arith)
    (number_at items i (omega (arith, i_lt_count, count_append is_number (number n ∷ []) items)))
number_at (mark ∷ items) i i_lt_count =
    nth_later mark items i i (omega arith)
    (number_at items i (omega (arith, i_lt_count, count_append is_number (mark ∷ []) items)))

lists_equal : (a b : List Step) → length a ≡ length b
    → ((i : ℕ) → i < length a → slice_get a i ≡ slice_get b i) → a ≡ b
lists_equal [] [] lengths_equal equal_at_each = refl
lists_equal [] (t ∷ b) lengths_equal equal_at_each = absurd (omega arith)
lists_equal (s ∷ a) [] lengths_equal equal_at_each = absurd (omega arith)
lists_equal (s ∷ a) (t ∷ b) lengths_equal equal_at_each =
    ap₂ (λ x xs. x ∷ xs) (same_Some s t (equal_at_each 0 (omega arith)))
    (lists_equal a b (omega arith) (λ i i_lt_length. equal_at_each (suc i) (omega arith)))

pub named_steps_are_unique : NamedStepsAreUnique
named_steps_are_unique hypotheses labels items ss other_steps are_steps are_other_steps =
    lists_equal ss other_steps (are_steps.step_count_is ∙ sym are_other_steps.step_count_is)
    equal_at
  where
    equal_at : (i : ℕ) → i < length ss → slice_get ss i ≡ slice_get other_steps i
    equal_at i i_lt_length =
        let step_count = are_steps.step_count_is in
        let number_i = number_at items i (omega arith) in
        let named = are_steps.each_is_named number_i.items_before number_i.items_after number_i.n
        number_i.items_are in
        let other_named = are_other_steps.each_is_named number_i.items_before number_i.items_after
        number_i.n number_i.items_are in
        let steps_are_equal : named.0 ≡ other_named.0 =
        named_step_is_unique hypotheses labels number_i.items_before number_i.n named.0
        other_named.0 named.2 other_named.2 in
        ap (slice_get ss) (sym number_i.number_count_is) ∙ named.1 ∙ ap Some steps_are_equal
        ∙ sym other_named.1 ∙ ap (slice_get other_steps) number_i.number_count_is
