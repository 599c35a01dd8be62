-- How a symbol is found in a row.
use Rattle.std.proofs.lemmas.Bool.{true_from_ne_false, or_cases, cases_eq, lt-ltb, ltb-true, le-leb}
use Rattle.std.proofs.lemmas.Bool.{leb-true, eq-eqb, eqb-true, and_parts}
use Rattle.std.proofs.lemmas.Grind.{common_steps}
use Rattle.std.proofs.Common.{◌≡◌, ℕ, ◌-◌, ◌<◌, ◌≤◌, Bool, true, false, ◌&&◌, suc, List, [], ◌∷◌}
use Rattle.std.proofs.Common.{length, get_or, nat_eq, nat_lt, nat_le, sym, ap, ◌∙◌, arith}
use Rattle.std.proofs.Common.{true≢false, inl, inr}
use Rattle.std.proofs.lemmas.List.Folds.{list_any_at}
use Rattle.std.specs.List.{list_any}
use Rattle.mm_spec.proofs.BoolLaw.{same_tests}
use Rattle.mm_outline.specs.Blocks.{BlockLists, end_of}
use Rattle.mm_database.specs.Pairs.{has_pair, IsBefore, is_pair_before, AreRising}
use Rattle.mm_database.specs.DisjointIndex.{is_active_local, is_active_in_row, IsRow}
use Rattle.mm_database.proofs.DisjointIndexLaw.{IsPartedAt, index_of_pair, is_before}
use Rattle.mm_database.proofs.DisjointIndexLaw.{has_pair_at_index, earlier_is_before}
use Rattle.mm_database.proofs.DisjointIndexLaw.{is_before_from_test, is_pair_before_if}
use Rattle.mm_database.proofs.DisjointIndexLaw.{pair_lt_start}
use Rattle.std.specs.List.Sorted.{IsPartitionedBy}

-- a pair of the row with symbol y and an active statement
pub record HasActive (b : BlockLists) (row : List (ℕ × ℕ)) (y k : ℕ) : Type 0 where
  pub statement : ℕ
  pub is_there : has_pair row y statement ≡ true
  pub is_active : is_active_local b statement k ≡ true

-- a list that has a passing pair has it at an index
index_of_passing : (t : ℕ × ℕ → Bool) (ps : List (ℕ × ℕ)) → list_any t ps ≡ true
    → (p : ℕ) × (p < length ps) × (t (get_or ps p (0, 0)) ≡ true)
index_of_passing t [] some_pass = absurd (true≢false (sym some_pass))
index_of_passing t (q ∷ qs) some_pass = elim (or_cases (t q) (list_any t qs) some_pass) [
  | inl q_passes ↦ (0, omega arith, q_passes)
  | inr rest_passes ↦
      (let found = index_of_passing t qs rest_passes in
      (suc found.0, omega (arith, found.1), found.2))
]

module _ (b : BlockLists) (row : List (ℕ × ℕ)) (y k : ℕ) where
  -- the test finds an active pair
  pub active_from_test : is_active_in_row b row y k ≡ true → HasActive b row y k
  active_from_test is_active =
      let found = index_of_passing (λ p. nat_eq y p.0 && is_active_local b p.1 k) row is_active in
      let pair = get_or row found.0 (0, 0) in
      let parts = and_parts (nat_eq y pair.0) (is_active_local b pair.1 k) found.2 in
      record {
        statement = pair.1;
        is_there = ap (λ z. has_pair row z pair.1) (eqb-true y pair.0 parts.0)
            ∙ has_pair_at_index row found.0 (0, 0) found.1;
        is_active = parts.1;
      }

  -- an active pair is found by the test
  pub test_from_active : (j : ℕ) → has_pair row y j ≡ true → is_active_local b j k ≡ true
      → is_active_in_row b row y k ≡ true
  test_from_active j is_there is_active =
      let found = index_of_pair row y j is_there in
      list_any_at (λ p. nat_eq y p.0 && is_active_local b p.1 k) row found.index (0, 0)
      found.index_lt_length (rw (
        eq-eqb y (get_or row found.index (0, 0)).0 (sym found.first_is_x),
        found.second_is_y,
      ) is_active)

  -- the last pair before statement k answers for all
  pub last_pair_answers : IsRow b row → (count : ℕ) → IsPartedAt row y k count → (r : Bool)
      → (r ≡ true → (0 < count) × ((get_or row (count - 1) (0, 0)).0 ≡ y)
      × (nat_le k (end_of b (get_or row (count - 1) (0, 0)).1) ≡ true))
      → (r ≡ false → 0 < count → (get_or row (count - 1) (0, 0)).0 ≡ y
      → nat_le k (end_of b (get_or row (count - 1) (0, 0)).1) ≡ false)
      → r ≡ is_active_in_row b row y k
  last_pair_answers is_row count is_parted r open_if_true closed_if_false =
      let last = get_or row (count - 1) (0, 0) in
      let count_le_length = is_parted.start_le_length in
      same_tests r (is_active_in_row b row y k)
      (λ r_true.
      let is_last = open_if_true r_true in
      let count_gt_0 = is_last.0 in
      test_from_active last.1
      (rw (← is_last.1) (has_pair_at_index row (count - 1) (0, 0) (omega arith)))
      (rw (lt-ltb last.1 k (is_before b row is_row.rising y k count is_parted (count - 1)
      (omega arith) is_last.1)) is_last.2))
      (λ is_active. true_from_ne_false r (λ r_false.
      let active = active_from_test is_active in
      let j = active.statement in
      let found = index_of_pair row y j active.is_there in
      let p = found.index in
      let parts = and_parts (nat_lt j k) (nat_le k (end_of b j)) active.is_active in
      let p_lt_count : p < count = pair_lt_start b row is_row.rising y k count is_parted p
      found.index_lt_length found.first_is_x
      (omega (arith, ltb-true j k parts.0, found.second_is_y)) in
      let last_closed : last.0 ≡ y → j ≤ last.1 → ⊥ = λ last_is_y j_le_last.
      true≢false (sym (elim (cases_eq j last.1) [
        | inl j_is_last ↦ rw (← j_is_last) parts.1
        | inr j_ne_last ↦ le-leb k (end_of b last.1) (omega (
          arith,
          leb-true k (end_of b j) parts.1,
          is_row.ends_rise y j last.1 active.is_there (rw (← last_is_y) (has_pair_at_index row
              (count - 1) (0, 0) (omega arith))) (omega arith),
        ))
      ]) ∙ closed_if_false r_false (omega arith) last_is_y) in
      elim (cases_eq p (count - 1)) [
        | inl p_is_last ↦ last_closed (rw (← p_is_last) found.first_is_x)
            (rw (← p_is_last, found.second_is_y) (omega arith))
        | inr p_ne_last ↦
            (let later = earlier_is_before row is_row.rising p (count - 1) (0, 0) (omega arith)
            (omega arith) in
            let last_before = is_before_from_test last y k
            (is_parted.earlier_are_before (count - 1) (omega arith)) in
            last_closed (grind (arith, later, last_before, found.first_is_x))
            (grind (arith, later, last_before, found.first_is_x, found.second_is_y)))
      ]))

-- a pair is before another one if it is before a pair that is no later
before_is_transitive : (a c : ℕ × ℕ) (y k : ℕ) → IsBefore a.0 a.1 c.0 c.1 → IsBefore c.0 c.1 y k
    → IsBefore a.0 a.1 y k
before_is_transitive a c y k a_before c_before = grind (arith, common_steps)

-- in a row those before a pair stand first
pub row_is_partitioned : (row : List (ℕ × ℕ)) → AreRising row → (y k : ℕ)
    → IsPartitionedBy (λ p. is_pair_before p y k) row
row_is_partitioned row is_rising y k i j d i_le_j j_lt_length j_is_before = elim (cases_eq i j) [
  | inl i_is_j ↦ rw i_is_j j_is_before
  | inr i_ne_j ↦ is_pair_before_if (get_or row i d) y k
      (before_is_transitive (get_or row i d) (get_or row j d) y k
      (earlier_is_before row is_rising i j d (omega arith) j_lt_length)
      (is_before_from_test (get_or row j d) y k j_is_before))
]
