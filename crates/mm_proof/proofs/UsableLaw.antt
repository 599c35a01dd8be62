-- The statement of a usable label, by what is found.
use Rattle.std.proofs.Common.{◌≡◌, ◌&&◌, ◌||◌, ℕ, ◌+◌, ◌<◌, Bool, true, false, List, [], ◌∷◌}
use Rattle.std.proofs.Common.{nat_eq, sym, arith, true≢false, eqb-true}
use Rattle.std.proofs.lemmas.Bool.Decides.{nat_tests}
use Rattle.std.specs.List.{list_any}
use Rattle.std.proofs.Math.Bool.{and-false}
use Rattle.mm_spec.specs.Text.{Bytes}
use Rattle.mm_spec.specs.Statement.{Statement}
use Rattle.mm_spec.specs.Scope.{active_at, statement_at}
use Rattle.mm_spec.specs.NormalProof.{is_labelled, usable}
use Rattle.mm_spec.proofs.FindsLaw.{active_lt_place}
use Rattle.mm_spec.proofs.BoolLaw.{passes_alone}
use Rattle.mm_spec.proofs.RisingLaw.{filter_is}

module _ (db : List Statement) (k : ℕ) (w : Bytes) where
  -- whether a statement has the label
  abbrev labelled : ℕ → Bool
  labelled j = list_any (is_labelled w) (statement_at db j)

  -- whether a statement has the label and may be used
  abbrev passes : ℕ → Bool
  passes j = active_at db j k && labelled j

  -- if no statement has the label and may be used, the label isn't usable
  none_passes : ((j : ℕ) → passes j ≡ false) → usable db k w ≡ []
  none_passes all_fail =
      filter_is passes k 0 [] tt
      (λ j is_member_of_none. absurd (true≢false (sym is_member_of_none)))
      (λ j i_ge_0 i_lt_k. all_fail j)

  -- a label that no statement has isn't usable
  pub undeclared_is_unusable : ((j : ℕ) → labelled j ≡ false) → usable db k w ≡ []
  undeclared_is_unusable none_is_labelled =
      none_passes (λ j. rw (none_is_labelled j) (and-false (active_at db j k)))

  -- a label of a statement that isn't active isn't usable
  pub inactive_is_unusable : (j : ℕ) → ((i : ℕ) → labelled i ≡ true → i ≡ j)
      → active_at db j k ≡ false
      → usable db k w ≡ []
  inactive_is_unusable j only_j_is_labelled j_is_inactive =
      none_passes (λ i. grind (arith, only_j_is_labelled i, j_is_inactive))

  -- a label of an active statement is usable
  pub active_is_usable : (j : ℕ) → ((i : ℕ) → labelled i ≡ true → i ≡ j) → labelled j ≡ true
      → active_at db j k ≡ true → usable db k w ≡ j ∷ []
  active_is_usable j only_j_is_labelled j_is_labelled active_at_k =
      filter_is passes k 0 (j ∷ []) ((omega arith), tt) member_lt_k
      (λ i i_ge_0 i_lt_k. grind
      (arith, nat_tests, only_j_is_labelled i, j_is_labelled, active_at_k))
    where
      member_lt_k : (i : ℕ) → (nat_eq i j || false) ≡ true → i < 0 + k
      member_lt_k i i_is_member =
          let i_is_j : i ≡ j = eqb-true i j
          (passes_alone (nat_eq i j) i_is_member) in let j_lt_k = active_lt_place db j k
          active_at_k in
          omega (arith, i_is_j, j_lt_k)
