-- Which variables the labels of a proof name.
use Rattle.std.proofs.Math.Bool.{and_assoc, and-false, and-true}
use Rattle.std.proofs.lemmas.List.Folds.{list_any_none, list_any-append}
use Rattle.std.proofs.lemmas.Bool.Decides.{nat_tests}
use Rattle.std.proofs.Common.{◌≡◌, ◌∙◌, ℕ, Bool, true, false, ◌&&◌, ◌||◌, List, [], ◌∷◌, refl, ap}
use Rattle.std.proofs.Common.{sym, arith, true≢false, eq-eqb, ◌++◌, length, Some, option_map}
use Rattle.std.proofs.Common.{slice_get}
use Rattle.std.proofs.lemmas.Bool.{ne_eqb}
use Rattle.std.specs.Prelude.{not, flat_map, Option, if◌then◌else◌}
use Rattle.std.specs.List.{list_any, filter, range_with_len}
use Rattle.std.proofs.lemmas.Grind.{common_steps}
use Rattle.mm_spec.specs.Text.{Bytes}
use Rattle.mm_spec.specs.Statement.{Statement}
use Rattle.mm_spec.specs.Scope.{statement_at, active_at}
use Rattle.mm_spec.specs.Derivation.{is_member, Pair}
use Rattle.mm_spec.specs.Frame.{active_of, is_floating, mandatory_hypotheses, symbol_names}
use Rattle.mm_spec.specs.Frame.{pairs_below}
use Rattle.mm_database.specs.Database.{kind_of}
use Rattle.mm_outline.specs.declared.parts.Kind.{Kind}
use Rattle.mm_outline.specs.declared.parts.Kind.TheVariants.{Theorem}
use Rattle.mm_spec.specs.Assertion.{has_label, variable_of, is_named_in, dummy_floats}
use Rattle.mm_spec.specs.Assertion.{is_variable_of, proof_labels, proof_at, is_used, dummies}
use Rattle.mm_spec.specs.Assertion.{dummy_pairs, is_dummy_pair, is_told}
use Rattle.mm_tell.specs.Dummies.{told_dummies, told_dummy_pairs}
use Rattle.mm_spec.proofs.MemberLaw.{member_flat, member_filter, member_range}
use Rattle.mm_spec.proofs.FindsLaw.{any_filter}
use Rattle.mm_tell.specs.Named.{names_dummy, float_variable}

absorbed : (a b : Bool) → (a || (b && a)) ≡ a
absorbed a b = grind (arith, common_steps)

any_of_both : {X Y : Type 0} (p : X → Y → Bool) (q : Y → Bool) (xs : List X) (y : Y)
    → list_any (λ x. p x y && q y) xs ≡ (list_any (λ x. p x y) xs && q y)
any_of_both p q [] y = refl
any_of_both p q (x ∷ xs) y = grind (arith, common_steps, any_of_both p q xs y)

any_or : {X : Type 0} (p q : X → Bool) (xs : List X)
    → list_any (λ x. p x || q x) xs ≡ (list_any p xs || list_any q xs)
any_or p q [] = refl
any_or p q (x ∷ xs) = grind (arith, common_steps, any_or p q xs)

any_swapped : {X Y : Type 0} (p : X → Y → Bool) (xs : List X) (ys : List Y)
    → list_any (λ y. list_any (λ x. p x y) xs) ys ≡ list_any (λ x. list_any (p x) ys) xs
any_swapped p [] ys = list_any_none (λ y. false) ys (λ k y k_lt_length. refl)
any_swapped p (x ∷ xs) ys =
    any_or (p x) (λ y. list_any (λ x. p x y) xs) ys
    ∙ ap (λ b. list_any (p x) ys || b) (any_swapped p xs ys)

-- if one number alone passes a test, it alone decides
any_alone : (h q : ℕ → Bool) (xs : List ℕ) (j : ℕ) → h j ≡ true → ((i : ℕ) → h i ≡ true → i ≡ j)
    → list_any (λ i. h i && q i) xs ≡ (is_member xs j && q j)
any_alone h q [] j j_passes only_j = refl
any_alone h q (x ∷ xs) j j_passes only_j =
    grind (
      arith,
      common_steps,
      eq-eqb,
      absorbed,
      ne_eqb,
      true≢false,
      (any_alone h q xs j j_passes only_j),
    )

module _ (db : List Statement) (k : ℕ) where
  -- the active `$f`
  float_member : (j : ℕ) → is_member (active_of is_floating db k) j
      ≡ (list_any is_floating (statement_at db j) && active_at db j k)
  float_member j =
      grind (arith, common_steps, and-false, and-true, member_filter, member_range)

  module _ (label : Bytes) (x : ℕ) where
    -- no statement has the label
    pub named_by_none : ((j : ℕ) → has_label db label j ≡ false)
        → names_dummy db k label x ≡ false
    named_by_none none_has_label = list_any_none _ (active_of is_floating db k)
        (λ i j i_lt_length. rw (none_has_label _) refl)

    -- statement j alone has the label
    pub named_alone : (j : ℕ) → has_label db label j ≡ true
        → ((i : ℕ) → has_label db label i ≡ true → i ≡ j)
        → names_dummy db k label x
        ≡ ((list_any is_floating (statement_at db j) && active_at db j k)
        && (not (is_member (mandatory_hypotheses db k) j) && is_member (variable_of db j) x))
    named_alone j j_has_label only_j = rw (← float_member j) (any_alone (has_label db label)
        (λ i. not (is_member (mandatory_hypotheses db k) i) && is_member (variable_of db i) x)
        (active_of is_floating db k) j j_has_label only_j)

  -- the variables that the labels of the proof name are those of the dummy `$f`
  pub named_by_labels : (x : ℕ)
      → list_any (λ label. names_dummy db k label x) (proof_labels (proof_at db k))
      ≡ is_variable_of db (dummy_floats db k) x
  named_by_labels x =
      any_swapped (λ j label. has_label db label j && rest j) (active_of is_floating db k)
      (proof_labels (proof_at db k))
      ∙ each_any_is (active_of is_floating db k)
      ∙ sym (member_flat (variable_of db) (dummy_floats db k) x
      ∙ any_filter (λ j. is_named_in db k j && not (is_member (mandatory_hypotheses db k) j))
      (λ j. is_member (variable_of db j) x) (active_of is_floating db k))
    where
      rest : ℕ → Bool
      rest j = not (is_member (mandatory_hypotheses db k) j) && is_member (variable_of db j) x

      each_any_is : (js : List ℕ)
          → list_any (λ j. list_any (λ label. has_label db label j && rest j)
          (proof_labels (proof_at db k))) js
          ≡ list_any (λ j. (is_named_in db k j && not (is_member (mandatory_hypotheses db k) j))
          && is_member (variable_of db j) x) js
      each_any_is [] = refl
      each_any_is (j ∷ js) =
          rw (
            any_of_both (λ label i. has_label db label i) rest (proof_labels (proof_at db k)) j,
            each_any_is js,
            and_assoc (is_named_in db k j),
          ) refl

-- the variables of the `$f` among statements
floats_filtered : (db : List Statement) (js : List ℕ) (x : ℕ)
    → is_member (flat_map (float_variable db) js) x
    ≡ is_member (flat_map (variable_of db)
    (filter (λ j. list_any is_floating (statement_at db j)) js)) x
floats_filtered db [] x = refl
floats_filtered db (j ∷ js) x = grind (arith, nat_tests, list_any-append, (floats_filtered db js x))

-- what a statement uses are the variables of its mandatory `$f` and its dummy variables
pub used_members : (db : List Statement) (k x : ℕ) (listed : List ℕ)
    → is_member listed x ≡ is_variable_of db (dummy_floats db k) x
    → is_member (flat_map (float_variable db) (mandatory_hypotheses db k) ++ listed) x
    ≡ is_used db k x
used_members db k x listed listed_are =
    grind (arith, common_steps, list_any-append, floats_filtered, member_flat)

-- without dummy variables there are no pairs with one
pub no_pairs : (db : List Statement) (k : ℕ) → dummies db k ≡ [] → dummy_pairs db k ≡ []
no_pairs db k no_dummies = none_kept (pairs_below (length (symbol_names db)))
  where
    none_kept : (ps : List Pair) → filter (is_dummy_pair db k) ps ≡ []
    none_kept [] = refl
    none_kept (p ∷ ps) = rw (no_dummies, and-false, and-false, and-false) (none_kept ps)

-- without a proof there are no dummy variables
pub no_dummies : (db : List Statement) (k : ℕ) → proof_at db k ≡ [] → dummies db k ≡ []
no_dummies db k no_proof =
    none_passes (range_with_len 0 (length (symbol_names db)))
  where
    no_floats : (js : List ℕ)
        → filter (λ j. is_named_in db k j && not (is_member (mandatory_hypotheses db k) j)) js ≡ []
    no_floats [] = refl
    no_floats (j ∷ js) =
        let unnamed : is_named_in db k j ≡ false =
        ap (λ ts. list_any (λ label. has_label db label j) (proof_labels ts)) no_proof in
        rw unnamed (no_floats js)

    none_passes : (xs : List ℕ) → filter (is_variable_of db (dummy_floats db k)) xs ≡ []
    none_passes [] = refl
    none_passes (x ∷ xs) =
        let fails : is_variable_of db (dummy_floats db k) x ≡ false =
        ap (λ js. is_variable_of db js x) (no_floats (active_of is_floating db k)) in
        rw fails (none_passes xs)

-- only a theorem has a proof
pub no_proof_unless_theorem : (db : List Statement) (k : ℕ) (x : Kind)
    → option_map kind_of (slice_get db k) ≡ Some x → (x ≡ Theorem → ⊥) → proof_at db k ≡ []
no_proof_unless_theorem db k x kind_is not_theorem = grind (arith, nat_tests, slice_get, option_map)

-- a statement of which no dummy variable is told has no pairs that are told
pub no_told_pairs : (db : List Statement) (only : Option Bytes) (k : ℕ)
    → told_dummies db only k ≡ [] → told_dummy_pairs db only k ≡ []
no_told_pairs db only k = by_test (is_told db only k)
  where
    by_test : (b : Bool) → (if b then dummies db k else []) ≡ []
        → (if b then dummy_pairs db k else []) ≡ []
    by_test true none = no_pairs db k none
    by_test false none = refl

-- nothing is told of the dummy variables of a statement that has none
pub no_told_dummies : (db : List Statement) (only : Option Bytes) (k : ℕ) → dummies db k ≡ []
    → told_dummies db only k ≡ []
no_told_dummies db only k none = by_test (is_told db only k)
  where
    by_test : (b : Bool) → (if b then dummies db k else []) ≡ []
    by_test true = none
    by_test false = refl
