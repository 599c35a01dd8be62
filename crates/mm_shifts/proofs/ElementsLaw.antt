-- Theorems and axioms as elements of their lists.
use Rattle.std.proofs.Common.{◌≡◌, ◌∙◌, ℕ, suc, ◌+◌, ◌<◌, Bool, true, List, [], ◌∷◌, length}
use Rattle.std.proofs.Common.{sym, arith, None, true≢false, eqb-true, ◌==◌, inl, inr}
use Rattle.std.proofs.lemmas.Bool.{or_cases, lt-ltb}
use Rattle.std.specs.Prelude.{slice_index}
use Rattle.std.specs.List.{list_any, range_with_len}
use Rattle.mm_spec.specs.Statement.{Statement}
use Rattle.mm_spec.specs.Scope.{statement_at}
use Rattle.mm_spec.specs.Derivation.{is_member}
use Rattle.mm_spec.specs.Citation.{is_assertion, is_theorem}
use Rattle.mm_spec.specs.Output.{is_theorem_at, is_column, theorems, columns}
use Rattle.mm_spec.proofs.MemberLaw.{member_range}
use Rattle.mm_spec.proofs.ListLaw.{element_is_member}
use Rattle.mm_spec.proofs.FindsLaw.{passing_statement, got_lt_length, member_filter, filter_member}
use Rattle.mm_rows.proofs.ColumnLaw.{axiom_is_assertion}

-- a member has an index
pub member_has_index : (xs : List ℕ) (x : ℕ) → is_member xs x ≡ true
    → (i : ℕ) × (i < length xs) × (slice_index xs i ≡ x)
member_has_index [] x is_one = absurd (true≢false (sym is_one))
member_has_index (y ∷ ys) x is_one = elim (or_cases (x == y) (is_member ys x) is_one) [
  | inl is_first ↦ (0, omega arith, sym (eqb-true x y is_first))
  | inr is_later ↦ let (i, i_lt_length, found) = member_has_index ys x is_later in
      (suc i, omega arith, found)
]

module _ (db : List Statement) where
  -- a statement that passes is one of those that pass
  passing_is_member : (q : Statement → Bool) (k : ℕ) → list_any q (statement_at db k) ≡ true
      → is_member (range_with_len 0 (length db)) k ≡ true
  passing_is_member q k passes =
      let found = passing_statement db q k passes in
      member_range (length db) 0 k (omega arith)
      ∙ lt-ltb k (0 + length db) (omega (arith, got_lt_length db k found.0 found.1))

  pub theorem_has_index : (n : ℕ) → is_theorem_at db n ≡ true
      → (i : ℕ) × (i < length (theorems db)) × (slice_index (theorems db) i ≡ n)
  theorem_has_index n is_one =
      member_has_index (theorems db) n
      (filter_member (λ j. list_any is_theorem (statement_at db j)) (range_with_len 0 (length db)) n
      is_one (passing_is_member is_theorem n is_one))

  pub axiom_has_index : (a : ℕ) → list_any (is_column None) (statement_at db a) ≡ true
      → (i : ℕ) × (i < length (columns db None)) × (slice_index (columns db None) i ≡ a)
  axiom_has_index a is_one =
      member_has_index (columns db None) a
      (filter_member (λ j. list_any (is_column None) (statement_at db j))
      (range_with_len 0 (length db)) a is_one (passing_is_member (is_column None) a is_one))

  pub element_is_axiom : (j : ℕ) → j < length (columns db None)
      → list_any (is_column None) (statement_at db (slice_index (columns db None) j)) ≡ true
  element_is_axiom j j_lt_length =
      (member_filter (λ i. list_any (is_column None) (statement_at db i))
      (range_with_len 0 (length db)) (slice_index (columns db None) j)
      (element_is_member (columns db None) j 0 j_lt_length)).0

  pub element_is_assertion : (j : ℕ) → j < length (columns db None)
      → list_any is_assertion (statement_at db (slice_index (columns db None) j)) ≡ true
  element_is_assertion j j_lt_length = axiom_is_assertion db _ (element_is_axiom j j_lt_length)

  pub element_lt_length : (j : ℕ) → j < length (columns db None)
      → slice_index (columns db None) j < length db
  element_lt_length j j_lt_length =
      let found = passing_statement db (is_column None) _ (element_is_axiom j j_lt_length) in
      got_lt_length db _ found.0 found.1

  pub theorem_lt_length : (i : ℕ) → i < length (theorems db)
      → slice_index (theorems db) i < length db
  theorem_lt_length i i_lt_length =
      let is_one = (member_filter (λ j. list_any is_theorem (statement_at db j))
      (range_with_len 0 (length db)) (slice_index (theorems db) i)
      (element_is_member (theorems db) i 0 i_lt_length)).0 in
      let found = passing_statement db is_theorem (slice_index (theorems db) i) is_one in
      got_lt_length db _ found.0 found.1
