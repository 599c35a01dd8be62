-- Which `$d` are active at a statement, and whether one of them has two symbols.
use Rattle.std.proofs.lemmas.Bool.{true_from_ne_false, cases_Bool, cases_lt, le-ltb, lt-ltb}
use Rattle.std.proofs.lemmas.Bool.{ltb-true, le-leb, leb-true, and_parts}
use Rattle.std.proofs.Common.{◌≡◌, ◌≢◌, ℕ, ◌<◌, ◌≤◌, Bool, true, false, ◌&&◌, List, length, nat_lt}
use Rattle.std.proofs.Common.{nat_le, refl, sym, ◌∙◌, arith, true≢false, inl, inr}
use Rattle.std.specs.List.{list_any}
use Rattle.mm_spec.specs.Statement.{Statement}
use Rattle.mm_spec.specs.Scope.{statement_at}
use Rattle.mm_spec.specs.Derivation.{is_member}
use Rattle.mm_spec.specs.Frame.{is_disjoint_statement, active_of, formula_at}
use Rattle.mm_spec.proofs.BoolLaw.{same_tests}
use Rattle.mm_spec.proofs.MemberLaw.{active_member, disjoint_local, passing_has_witness}
use Rattle.mm_spec.proofs.MemberLaw.{witness_makes_any}
use Rattle.mm_outline.specs.Blocks.{BlockLists, IsBlocks, end_of}
use Rattle.mm_database.specs.DisjointIndex.{is_disjoint_by_width, has_symbol_by_width}
use Rattle.mm_database.specs.DisjointIndex.{has_narrow_pair, is_narrow, is_active_local}
use Rattle.mm_database.specs.DisjointIndex.{is_active_in_row, is_active_pair, IsRowOfPairs, row_of}
use Rattle.mm_database.proofs.RowSearchLaw.{active_from_test, test_from_active}
use Rattle.mm_database.specs.Pairs.{has_pair}
use Rattle.mm_database.specs.Together.{are_together_at}

module _ (db : List Statement) (b : BlockLists) (are_blocks : IsBlocks db b) (k : ℕ)
    (k_le_length : k ≤ length db) where
  -- a `$d` is active exactly if it is before k and its block is open there
  pub active_local_is_active : (j : ℕ) → list_any is_disjoint_statement (statement_at db j) ≡ true
      → is_active_local b j k ≡ is_member (active_of is_disjoint_statement db k) j
  active_local_is_active j j_is_disjoint =
      rw (active_member is_disjoint_statement db disjoint_local k j, j_is_disjoint)
      (elim (cases_lt j k) [
        | inl j_lt_k ↦ rw (are_blocks.open_up_to_end j k j_lt_k k_le_length) refl
        | inr k_le_j ↦ rw (le-ltb j k k_le_j) refl
      ])

  -- what is active of the `$d` is a `$d`
  pub active_is_disjoint : (j : ℕ) → is_member (active_of is_disjoint_statement db k) j ≡ true
      → list_any is_disjoint_statement (statement_at db j) ≡ true
  active_is_disjoint j j_is_active =
      (and_parts (list_any is_disjoint_statement (statement_at db j)) _ (and_parts (nat_lt j k) _
      (sym (active_member is_disjoint_statement db disjoint_local k j) ∙ j_is_active)).1).0

  -- an active `$d` that has both symbols
  pub record HasBoth (x y : ℕ) : Type 0 where
    pub statement : ℕ
    pub is_disjoint : list_any is_disjoint_statement (statement_at db statement) ≡ true
    pub has_x : is_member (formula_at db statement) x ≡ true
    pub has_y : is_member (formula_at db statement) y ≡ true
    pub is_active : is_active_local b statement k ≡ true

  -- the same with the two symbols exchanged
  abbrev turned : {x y : ℕ} → HasBoth y x → HasBoth x y
  turned both = record {
    statement = both.statement;
    is_disjoint = both.is_disjoint;
    has_x = both.has_y;
    has_y = both.has_x;
    is_active = both.is_active;
  }

  pub together_from_both : (x y : ℕ) → HasBoth x y → are_together_at db k x y ≡ true
  together_from_both x y both =
      witness_makes_any (λ i. is_member (formula_at db i) x && is_member (formula_at db i) y)
      (active_of is_disjoint_statement db k) both.statement
      (rw (← active_local_is_active both.statement both.is_disjoint) both.is_active)
      (rw (both.has_x, both.has_y) refl)

  pub both_from_together : (x y : ℕ) → are_together_at db k x y ≡ true → HasBoth x y
  both_from_together x y are_together =
      let common = passing_has_witness
      (λ j. is_member (formula_at db j) x && is_member (formula_at db j) y)
      (active_of is_disjoint_statement db k) are_together in
      let is_disjoint = active_is_disjoint common.0 common.1 in
      let parts = and_parts (is_member (formula_at db common.0) x) _ common.2 in
      record {
        statement = common.0;
        is_disjoint = is_disjoint;
        has_x = parts.0;
        has_y = parts.1;
        is_active = active_local_is_active common.0 is_disjoint ∙ common.1;
      }

  module _ (rows : List (List (ℕ × ℕ))) (rows_are : (x : ℕ)
      → IsRowOfPairs b (has_narrow_pair db x) (row_of rows x)) where
    -- a pair that is active in a row is in one active `$d`
    pub row_is_together : (x y : ℕ) → is_active_in_row b (row_of rows x) y k ≡ true
        → HasBoth x y
    row_is_together x y is_active =
        let found = active_from_test b (row_of rows x) y k is_active in
        let j = found.statement in
        let both = and_parts (has_symbol_by_width db true y j) (is_member (formula_at db j) x)
        (and_parts (nat_lt x y) _ ((rows_are x).pairs_pass y j found.is_there)).1 in
        let y_parts = and_parts (is_disjoint_by_width db true j) _ both.0 in
        record {
          statement = j;
          is_disjoint =
              (and_parts (list_any is_disjoint_statement (statement_at db j)) _ y_parts.0).0;
          has_x = both.1;
          has_y = y_parts.1;
          is_active = found.is_active;
        }

    -- a narrow `$d` that is active and has both makes the pair active in the row of the lower
    pub narrow_is_in_row : (x y : ℕ) → x < y → (both : HasBoth x y)
        → is_narrow (formula_at db both.statement) ≡ true
        → is_active_in_row b (row_of rows x) y k ≡ true
    narrow_is_in_row x y x_lt_y both is_narrow_here =
        let j = both.statement in
        let covered = (rows_are x).passing_are_covered y j (rw (
          lt-ltb x y x_lt_y,
          both.is_disjoint,
          is_narrow_here,
          both.has_y,
          both.has_x,
        ) refl) in
        let parts = and_parts (nat_lt j k) (nat_le k (end_of b j)) both.is_active in
        let i = covered.covering in
        test_from_active b (row_of rows x) y k i covered.is_there
        (rw (
          lt-ltb i k (omega (arith, covered.covering_le, ltb-true j k parts.0)),
          le-leb k (end_of b i) (omega (
            arith,
            covered.ends_no_earlier,
            leb-true k (end_of b j) parts.1,
          )),
        ) refl)

    -- the same by the lower and the higher of the two
    pub pair_is_together : (x y : ℕ) → is_active_pair b rows x y k ≡ true → HasBoth x y
    pair_is_together x y is_active = elim (cases_lt x y) [
      | inl x_lt_y ↦ row_is_together x y (rw (lt-ltb x y x_lt_y) at is_active)
      | inr y_le_x ↦ turned (row_is_together y x (rw (le-ltb x y y_le_x) at is_active))
    ]

    pub narrow_is_pair : (x y : ℕ) → x ≢ y → (both : HasBoth x y)
        → is_narrow (formula_at db both.statement) ≡ true
        → is_active_pair b rows x y k ≡ true
    narrow_is_pair x y x_ne_y both is_narrow_here = elim (cases_lt x y) [
      | inl x_lt_y ↦ rw (lt-ltb x y x_lt_y) (narrow_is_in_row x y x_lt_y both is_narrow_here)
      | inr y_le_x ↦ rw (le-ltb x y y_le_x)
          (narrow_is_in_row y x (omega arith) (turned both) is_narrow_here)
    ]

    module _ (ps : List (ℕ × ℕ)) (pairs_are_members : (x j : ℕ)
        → has_pair ps x j ≡ has_symbol_by_width db false x j) where
      -- the answer to whether an active `$d` has both, by rows and by wide `$d`
      pub found_is_together : (r : Bool) (x y : ℕ) → x ≢ y
          → (is_active_pair b rows x y k ≡ true → r ≡ true)
          → (r ≡ true → is_active_pair b rows x y k ≡ false
          → (j : ℕ) × (has_pair ps x j ≡ true) × (has_pair ps y j ≡ true)
          × (is_active_local b j k ≡ true))
          → (r ≡ false → (j : ℕ) → has_pair ps x j ≡ true → has_pair ps y j ≡ true
          → is_active_local b j k ≡ false)
          → r ≡ are_together_at db k x y
      found_is_together r x y x_ne_y narrow_is_found wide_if_true none_if_false =
          same_tests r (are_together_at db k x y)
          (λ r_true. together_from_both x y
          (elim (cases_Bool (is_active_pair b rows x y k)) [
            | inl is_pair ↦ pair_is_together x y is_pair
            | inr is_no_pair ↦
                (let common = wide_if_true r_true is_no_pair in
                let j = common.0 in
                let x_parts = wide_parts x j common.1 in
                record {
                  statement = j;
                  is_disjoint = x_parts.0;
                  has_x = x_parts.1;
                  has_y = (wide_parts y j common.2).1;
                  is_active = common.3;
                })
          ]))
          (λ are_together. true_from_ne_false r (λ r_false.
          let both = both_from_together x y are_together in
          let j = both.statement in
          elim (cases_Bool (is_narrow (formula_at db j))) [
            | inl is_narrow_here ↦ true≢false (sym (narrow_is_found (narrow_is_pair x y x_ne_y both
                is_narrow_here)) ∙ r_false)
            | inr is_wide ↦ true≢false (sym both.is_active ∙ none_if_false r_false j
                (rw (pairs_are_members x j, both.is_disjoint, is_wide, both.has_x) refl)
                (rw (pairs_are_members y j, both.is_disjoint, is_wide, both.has_y) refl))
          ]))
        where
          wide_parts : (z j : ℕ) → has_pair ps z j ≡ true
              → (list_any is_disjoint_statement (statement_at db j) ≡ true)
              × (is_member (formula_at db j) z ≡ true)
          wide_parts z j is_there =
              let parts = and_parts (is_disjoint_by_width db false j) _
              (rw pairs_are_members at is_there) in
              let disjoint = list_any is_disjoint_statement (statement_at db j) in
              ((and_parts disjoint _ parts.0).0, parts.1)
