-- Which symbols are disjoint doesn't depend on their order.
use Rattle.std.proofs.Common.{◌≡◌, ℕ, ◌==◌, nat_lt, Bool, true, false, not, ◌&&◌, ◌||◌, List, []}
use Rattle.std.proofs.Common.{◌∷◌, length, refl, sym, ap₂, ◌∙◌, subst, All, true≢false, eq-eqb}
use Rattle.std.proofs.Common.{eqb-true}
use Rattle.std.specs.List.{list_any, AllByRecursion}
use Rattle.std.proofs.lemmas.List.Elements.{All-from_recursion}
use Rattle.std.proofs.Math.Bool.{and_comm}
use Rattle.mm_spec.specs.Statement.{Statement}
use Rattle.mm_spec.specs.Derivation.{Pair, is_member, are_disjoint}
use Rattle.mm_spec.specs.Frame.{symbol_names, is_variable_number, formula_at, mandatory_variables}
use Rattle.mm_spec.specs.Frame.{mandatory_pairs, disjoint_at, active_of, is_disjoint_statement}
use Rattle.mm_spec.specs.Frame.{pairs_below}
use Rattle.mm_spec.specs.Citation.{context_at}
use Rattle.mm_spec.proofs.FindsLaw.{each_filter, each_any}
use Rattle.mm_rule.specs.Assertions.{as_pairs}

-- equality of numbers is symmetric
eq_symmetric : (x y : ℕ) → (x == y) ≡ (y == x)
eq_symmetric x y = tests_agree (x == y) (y == x) refl refl
  where
    tests_agree : (a b : Bool) → (x == y) ≡ a → (y == x) ≡ b → a ≡ b
    tests_agree true true x_eq_y_is_a y_eq_x_is_b = refl
    tests_agree false false x_eq_y_is_a y_eq_x_is_b = refl
    tests_agree true false x_eq_y_is_a y_eq_x_is_b =
        absurd (true≢false (sym (eq-eqb y x (sym (eqb-true x y x_eq_y_is_a))) ∙ y_eq_x_is_b))
    tests_agree false true x_eq_y_is_a y_eq_x_is_b =
        absurd (true≢false (sym (eq-eqb x y (sym (eqb-true y x y_eq_x_is_b))) ∙ x_eq_y_is_a))

-- equal tests find the same
any_of_equal_tests : (p q : ℕ → Bool) → ((j : ℕ) → p j ≡ q j) → (xs : List ℕ)
    → list_any p xs ≡ list_any q xs
any_of_equal_tests p q tests_equal [] = refl
any_of_equal_tests p q tests_equal (x ∷ xs) =
    ap₂ (λ a b. a || b) (tests_equal x) (any_of_equal_tests p q tests_equal xs)

module _ (db : List Statement) (k : ℕ) where
  -- what is disjoint from another is so the other way round
  disjoint_symmetric : (x y : ℕ) → disjoint_at db k x y ≡ disjoint_at db k y x
  disjoint_symmetric x y =
      ap₂ (λ a b. not a && b) (eq_symmetric x y)
      (any_of_equal_tests (λ j. is_member (formula_at db j) x && is_member (formula_at db j) y)
      (λ j. is_member (formula_at db j) y && is_member (formula_at db j) x)
      (λ j. and_comm (is_member (formula_at db j) x) (is_member (formula_at db j) y))
      (active_of is_disjoint_statement db k))

  -- the test of a context is symmetric too
  pub are_disjoint_symmetric : (x y : ℕ) → are_disjoint (context_at db k) x y ≡ true
      → are_disjoint (context_at db k) y x ≡ true
  are_disjoint_symmetric x y are_disjoint_x_y =
      ap₂ (λ a b. not a || b) (and_comm (is_variable_number db y) (is_variable_number db x))
      (ap₂ (λ a b. not a && b) (eq_symmetric y x) (disjoint_symmetric y x))
      ∙ are_disjoint_x_y

  -- what a `$d` makes disjoint is disjoint in the context
  disjoint_at_are_disjoint : (x y : ℕ) → disjoint_at db k x y ≡ true
      → are_disjoint (context_at db k) x y ≡ true
  disjoint_at_are_disjoint x y disjoint_x_y =
      test_holds (is_variable_number db x && is_variable_number db y) (x == y)
      (list_any (λ j. is_member (formula_at db j) x && is_member (formula_at db j) y)
      (active_of is_disjoint_statement db k)) disjoint_x_y
    where
      test_holds : (v e l : Bool) → (not e && l) ≡ true → (not v || (not e && (not e && l))) ≡ true
      test_holds false e l tests_hold = refl
      test_holds true true l tests_hold = tests_hold
      test_holds true false l tests_hold = tests_hold

  -- the pairs of a frame are disjoint at its assertion
  pub frame_pairs_are_disjoint : (ps : List (ℕ × ℕ)) → as_pairs ps ≡ mandatory_pairs db k
      → All (λ (p : ℕ × ℕ). are_disjoint (context_at db k) p.0 p.1 ≡ true) ps
  frame_pairs_are_disjoint ps ps_are_mandatory =
      All-from_recursion (λ (p : ℕ × ℕ). are_disjoint (context_at db k) p.0 p.1 ≡ true) ps
      (each_pair_is_disjoint ps
      (subst (AllByRecursion IsDisjointPair) (sym ps_are_mandatory) all_are_disjoint))
    where
      IsDisjointPair : Pair → Type 0
      IsDisjointPair p = are_disjoint (context_at db k) p.low p.high ≡ true

      last_holds : (a b c d : Bool) → (a && b && c && d) ≡ true → d ≡ true
      last_holds true true true d all_hold = all_hold
      last_holds true true false d all_hold = absurd (cc)
      last_holds true false c d all_hold = absurd (cc)
      last_holds false b c d all_hold = absurd (cc)

      in_order : Pair → Bool
      in_order p =
          nat_lt p.low p.high && is_member (mandatory_variables db k) p.low
          && is_member (mandatory_variables db k) p.high && disjoint_at db k p.low p.high

      all_are_disjoint : AllByRecursion IsDisjointPair (mandatory_pairs db k)
      all_are_disjoint =
          each_filter IsDisjointPair in_order (pairs_below (length (symbol_names db)))
          (each_any (λ p. in_order p ≡ true
          → IsDisjointPair p) (pairs_below (length (symbol_names db)))
          (λ p p_is_in_order. disjoint_at_are_disjoint p.low p.high
          (last_holds (nat_lt p.low p.high) (is_member (mandatory_variables db k) p.low)
          (is_member (mandatory_variables db k) p.high)
          (disjoint_at db k p.low p.high) p_is_in_order)))

      each_pair_is_disjoint : (ps : List (ℕ × ℕ)) → AllByRecursion IsDisjointPair (as_pairs ps)
          → AllByRecursion (λ (p : ℕ × ℕ). are_disjoint (context_at db k) p.0 p.1 ≡ true) ps
      each_pair_is_disjoint [] each_is_disjoint = tt
      each_pair_is_disjoint (p ∷ ps) each_is_disjoint =
          (each_is_disjoint.0, each_pair_is_disjoint ps each_is_disjoint.1)
