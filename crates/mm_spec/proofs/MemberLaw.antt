-- Members of lists, of filtered lists and of ranges; and which statements of a kind are active.
use Rattle.std.proofs.Common.{rules, ◌≡◌, ◌≢◌, ℕ, zero, suc, ◌+◌, ◌≤◌, Bool, true, ◌&&◌, ◌||◌, List}
use Rattle.std.proofs.Common.{[], ◌∷◌, ◌++◌, flat_map, nat_eq, nat_lt, refl, sym, arith, ◌⊎◌, inl}
use Rattle.std.proofs.Common.{inr, true≢false, eqb-true}
use Rattle.std.proofs.lemmas.Grind.{common_steps}
use Rattle.std.proofs.lemmas.Bool.{cases_eq, lt-ltb, le-ltb, eq-eqb, ne_eqb}
use Rattle.std.proofs.lemmas.List.Folds.{list_any-append}
use Rattle.std.proofs.Math.Bool.{and-false, and-true, or-false, or-true}
use Rattle.std.specs.List.{list_any, range_with_len, filter}
use Rattle.mm_spec.specs.Statement.{Statement}
use Rattle.mm_spec.specs.Scope.{statement_at, is_still_active, is_block_open}
use Rattle.mm_spec.specs.Derivation.{is_member}
use Rattle.mm_spec.specs.Frame.{active_of, is_essential, is_disjoint_statement}
use Rattle.mm_spec.proofs.BoolLaw.{same_tests}

pub member_push : (xs : List ℕ) (y i : ℕ)
    → is_member (xs ++ y ∷ []) i ≡ (is_member xs i || nat_eq i y)
member_push xs y i = grind (arith, common_steps, list_any-append, or-false)

pub member_filter : (p : ℕ → Bool) (xs : List ℕ) (i : ℕ)
    → is_member (filter p xs) i ≡ (p i && is_member xs i)
member_filter p [] i = sym (and-false (p i))
member_filter p (x ∷ xs) i = search (rules, arith, cases_eq, eq-eqb, ne_eqb, (member_filter p xs i))

pub member_range : (n a i : ℕ) → a ≤ i → is_member (range_with_len a n) i ≡ nat_lt i (a + n)
member_range zero a i a_le_i = sym (le-ltb i (a + 0) (omega arith))
member_range (suc n) a i a_le_i =
    at_first_or_later (cases_eq i a) (λ a_lt_i. member_range n (a + 1) i a_lt_i)
  where
    at_first_or_later : (i ≡ a) ⊎ (i ≢ a)
        → (a + 1 ≤ i → is_member (range_with_len (a + 1) n) i ≡ nat_lt i (a + 1 + n))
        → (nat_eq i a || is_member (range_with_len (a + 1) n) i) ≡ nat_lt i (a + suc n)
    at_first_or_later (inl at_first) later_members =
        search (rules, arith, eq-eqb, lt-ltb)
    at_first_or_later (inr at_first) later_members =
        search (rules, arith, ne_eqb)

pub passing_has_witness : (q : ℕ → Bool) (xs : List ℕ) → list_any q xs ≡ true
    → (v : ℕ) × (is_member xs v ≡ true) × (q v ≡ true)
passing_has_witness q [] some_passes = absurd (true≢false (sym some_passes))
passing_has_witness q (x ∷ xs) some_passes =
    grind (arith, common_steps, eq-eqb, or-true, passing_has_witness q xs)

pub witness_makes_any : (q : ℕ → Bool) (xs : List ℕ) (v : ℕ) → is_member xs v ≡ true → q v ≡ true
    → list_any q xs ≡ true
witness_makes_any q [] v v_is_member v_passes = absurd (true≢false (sym v_is_member))
witness_makes_any q (x ∷ xs) v v_is_member v_passes =
    grind (arith, common_steps, eqb-true, or-true, witness_makes_any q xs v)

pub same_members_same_any : (q : ℕ → Bool) (xs ys : List ℕ)
    → ((i : ℕ) → is_member xs i ≡ is_member ys i)
    → list_any q xs ≡ list_any q ys
same_members_same_any q xs ys members_equal =
    grind (arith, common_steps, witness_makes_any, passing_has_witness, same_tests)

pub member_flat : (f : ℕ → List ℕ) (xs : List ℕ) (x : ℕ)
    → is_member (flat_map f xs) x ≡ list_any (λ j. is_member (f j) x) xs
member_flat f [] x = refl
member_flat f (j ∷ xs) x = grind (arith, common_steps, list_any-append, member_flat f xs x)

-- ---- active statements of a kind

-- the kinds that are active to the end of their block
abbrev pub IsLocalTest : (Statement → Bool) → Type 0
IsLocalTest test = (s : Statement) (b : Bool) → test s ≡ true → is_still_active s b ≡ b

module _ (test : Statement → Bool) (db : List Statement) where
  pub active_member : IsLocalTest test → (k i : ℕ)
      → is_member (active_of test db k) i
      ≡ (nat_lt i k && (list_any test (statement_at db i) && is_block_open db i k))
  active_member is_local k i =
      grind (arith, common_steps, and-false, and-true, member_filter, member_range)

pub essential_local : (s : Statement) (b : Bool) → is_essential s ≡ true → is_still_active s b ≡ b
essential_local s b h1 = grind (arith, common_steps, true≢false)

pub disjoint_local : (s : Statement) (b : Bool) → is_disjoint_statement s ≡ true
    → is_still_active s b ≡ b
disjoint_local s b h1 = grind (arith, common_steps, true≢false)
