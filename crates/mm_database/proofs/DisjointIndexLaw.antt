-- How the `$d` statements that have a symbol are found.
use Rattle.std.proofs.lemmas.Bool.{or_cases, cases_lt, cases_eq, cases_order, lt-ltb, ltb-true}
use Rattle.std.proofs.lemmas.Bool.{eq-eqb, eqb-true, and_parts, false_from_ne_true}
use Rattle.std.proofs.lemmas.Bool.Decides.{nat_tests}
use Rattle.std.proofs.lemmas.Grind.{common_steps}
use Rattle.std.proofs.Common.{◌≡◌, ◌≢◌, ℕ, zero, suc, ◌+◌, ◌-◌, ◌<◌, ◌≤◌, Bool, true, false, ◌&&◌}
use Rattle.std.proofs.Common.{◌||◌, List, [], ◌∷◌, ◌++◌, length, get_or, nat_eq, nat_lt, nat_le}
use Rattle.std.proofs.Common.{refl, sym, ap, ◌∙◌, arith, true≢false, ◌⊎◌, inl, inr}
use Rattle.std.proofs.lemmas.List.Folds.{list_any-append}
use Rattle.std.proofs.Math.Bool.{or-false, or-true}
use Rattle.mm_spec.specs.Statement.{Statement}
use Rattle.mm_spec.specs.Frame.{is_disjoint_statement}
use Rattle.mm_spec.proofs.BoolLaw.{same_tests}
use Rattle.mm_outline.specs.Blocks.{BlockLists, IsBlocks, end_of}
use Rattle.mm_database.specs.Pairs.{has_pair, IsBefore, is_pair_before, AreRising}
use Rattle.mm_database.specs.DisjointIndex.{is_disjoint_by_width, has_symbol_by_width}
use Rattle.mm_database.specs.DisjointIndex.{is_active_local, HaveBlocks}
use Rattle.mm_outline.proofs.StatementsLaw.{passing_lt_length}

-- ---- pairs by their indices

-- where the pair of x and y stands in the list
pub record HasIndex (ps : List (ℕ × ℕ)) (x y : ℕ) : Type 0 where
  pub index : ℕ
  pub index_lt_length : index < length ps
  pub first_is_x : (get_or ps index (0, 0)).0 ≡ x
  pub second_is_y : (get_or ps index (0, 0)).1 ≡ y

-- a pair of the list stands somewhere in it
pub index_of_pair : (ps : List (ℕ × ℕ)) (x y : ℕ) → has_pair ps x y ≡ true → HasIndex ps x y
index_of_pair [] x y has_pair_x_y = absurd (true≢false (sym has_pair_x_y))
index_of_pair (q ∷ qs) x y has_pair_x_y = elim (or_cases (nat_eq x q.0 && nat_eq y q.1)
    (has_pair qs x y) has_pair_x_y) [
      | inl is_q ↦
          (let parts = and_parts (nat_eq x q.0) (nat_eq y q.1) is_q in
          record {
            index = 0;
            index_lt_length = omega arith;
            first_is_x = sym (eqb-true x q.0 parts.0);
            second_is_y = sym (eqb-true y q.1 parts.1);
          })
      | inr is_later ↦
          (let found = index_of_pair qs x y is_later in
          record {
            index = suc found.index;
            index_lt_length = omega (arith, found.index_lt_length);
            first_is_x = found.first_is_x;
            second_is_y = found.second_is_y;
          })
    ]

-- the list has each pair that stands in it
pub has_pair_at_index : (ps : List (ℕ × ℕ)) (p : ℕ) (d : ℕ × ℕ) → p < length ps
    → has_pair ps (get_or ps p d).0 (get_or ps p d).1 ≡ true
has_pair_at_index ps p d p_lt_length = grind (arith, common_steps, eq-eqb, or-true)

-- the list with one pair more
pub has_pair_push : (ps : List (ℕ × ℕ)) (i z j y : ℕ)
    → has_pair (ps ++ (i, z) ∷ []) j y ≡ (has_pair ps j y || (nat_eq j i && nat_eq y z))
has_pair_push ps i z j y = rw (list_any-append, or-false) refl

-- of two pairs in a list in ascending order, the earlier is before the later
pub earlier_is_before : (ps : List (ℕ × ℕ)) → AreRising ps → (i j : ℕ) (d : ℕ × ℕ) → i < j
    → j < length ps
    → IsBefore (get_or ps i d).0 (get_or ps i d).1 (get_or ps j d).0 (get_or ps j d).1
earlier_is_before [] are_rising i j d i_lt_j j_lt_length = absurd (omega arith)
earlier_is_before (p ∷ ps) are_rising zero zero d i_lt_j j_lt_length = absurd (omega arith)
earlier_is_before (p ∷ ps) are_rising zero (suc j) d i_lt_j j_lt_length =
    are_rising.0 (get_or ps j d).0 (get_or ps j d).1 (has_pair_at_index ps j d (omega arith))
earlier_is_before (p ∷ ps) are_rising (suc i) zero d i_lt_j j_lt_length = absurd (omega arith)
earlier_is_before (p ∷ ps) are_rising (suc i) (suc j) d i_lt_j j_lt_length =
    earlier_is_before ps are_rising.1 i j d (omega arith) (omega arith)

-- ---- before

-- what the test of pairs says, and its converse
pub is_before_from_test : (p : ℕ × ℕ) (x y : ℕ) → is_pair_before p x y ≡ true → IsBefore p.0 p.1 x y
is_before_from_test p x y test_is_true =
    grind (arith, common_steps, nat_tests, ltb-true, eqb-true)

pub is_pair_before_if : (p : ℕ × ℕ) (x y : ℕ) → IsBefore p.0 p.1 x y → is_pair_before p x y ≡ true
is_pair_before_if p x y is_before_y = grind (arith, common_steps, lt-ltb, eq-eqb, or-true)

-- ---- the blocks of the pairs

-- a `$d` has a block
pub disjoint_has_block : (db : List Statement) (b : BlockLists) → IsBlocks db b
    → (narrow : Bool) (x j : ℕ) → has_symbol_by_width db narrow x j ≡ true
    → (j < length b.block_of) × (get_or b.block_of j 0 < length b.ends)
disjoint_has_block db b blocks narrow x j j_has_x =
    let j_is_there = passing_lt_length is_disjoint_statement db j
    (and_parts _ _ (and_parts (is_disjoint_by_width db narrow j) _ j_has_x).0).0 in
    (omega (arith, blocks.count, j_is_there), blocks.blocks_have_ends j j_is_there)

-- the statements that have symbols have blocks
pub have_blocks : (db : List Statement) (b : BlockLists) → IsBlocks db b → (narrow : Bool)
    → (ps : List (ℕ × ℕ))
    → ((x j : ℕ) → has_pair ps x j ≡ has_symbol_by_width db narrow x j) → HaveBlocks b ps
have_blocks db b blocks narrow ps pairs_are_members p p_lt_length =
    disjoint_has_block db b blocks narrow (get_or ps p (0, 0)).0 (get_or ps p (0, 0)).1
    (sym (pairs_are_members _ _) ∙ has_pair_at_index ps p (0, 0) p_lt_length)

-- ---- the pairs before that of a symbol and a statement

-- so many pairs stand before that of the symbol and the statement `at`
pub record IsPartedAt (ps : List (ℕ × ℕ)) (x at start : ℕ) : Type 0 where
  pub start_le_length : start ≤ length ps
  pub earlier_are_before : (p : ℕ) → p < start → is_pair_before (get_or ps p (0, 0)) x at ≡ true
  pub later_are_not_before : (p : ℕ) → start ≤ p → p < length ps
      → is_pair_before (get_or ps p (0, 0)) x at ≡ false

-- the same for a list and a symbol that are equal to these
module _ (qs ps : List (ℕ × ℕ)) (y x : ℕ) (qs_is_ps : qs ≡ ps) (y_is_x : y ≡ x) where
  -- what is said of the equal list is said of this one
  pub parted_if_equal : (at start : ℕ) → start ≤ length qs
      → ((p : ℕ) → p < start → is_pair_before (get_or qs p (0, 0)) y at ≡ true)
      → ((p : ℕ) → start ≤ p → p < length qs → is_pair_before (get_or qs p (0, 0)) y at ≡ false)
      → IsPartedAt ps x at start
  parted_if_equal at start start_le_length earlier_are_before later_are_not_before =
      rw (← qs_is_ps, ← y_is_x) (record {
        start_le_length = start_le_length;
        earlier_are_before = earlier_are_before;
        later_are_not_before = later_are_not_before;
      })

-- ---- what is added of one symbol

-- the pairs from index `end` up to `start` have been looked at
pub record AddsFromEnd (b : BlockLists) (ps : List (ℕ × ℕ)) (x at start end : ℕ)
    (earlier_pairs pairs_so_far : List (ℕ × ℕ)) : Type 0 where
  pub end_le_start : end ≤ start
  pub old_pairs_stay : (j y : ℕ) → has_pair earlier_pairs j y ≡ true
      → has_pair pairs_so_far j y ≡ true
  pub new_pairs_are_active : (j y : ℕ) → has_pair pairs_so_far j y ≡ true
      → (has_pair earlier_pairs j y ≡ true)
      ⊎ ((y ≡ x) × (has_pair ps x j ≡ true) × (is_active_local b j at ≡ true))
  pub active_pairs_are_added : (p : ℕ) → end ≤ p → p < start → (get_or ps p (0, 0)).0 ≡ x
      → nat_le at (end_of b (get_or ps p (0, 0)).1) ≡ true
      → has_pair pairs_so_far (get_or ps p (0, 0)).1 x ≡ true

module _ (b : BlockLists) (ps : List (ℕ × ℕ)) (ps_are_rising : AreRising ps) (x at start : ℕ)
    (is_parted : IsPartedAt ps x at start)
  where
    -- a pair of the symbol that stands before is of an earlier statement than `at`
    pub is_before : (p : ℕ) → p < start → (get_or ps p (0, 0)).0 ≡ x → (get_or ps p (0, 0)).1 < at
    is_before p p_lt_start symbol_is_x = elim (is_before_from_test (get_or ps p (0, 0)) x at
        (is_parted.earlier_are_before p p_lt_start)) [
          | inl lower ↦ absurd (omega arith)
          | inr (symbol_is, lower) ↦ lower
        ]

    -- a `$d` whose block is open is added
    pub added_open : (end next_end : ℕ) (earlier_pairs pairs_so_far : List (ℕ × ℕ))
        → AddsFromEnd b ps x at start end earlier_pairs pairs_so_far
        → 0 < end → (get_or ps (end - 1) (0, 0)).0 ≡ x
        → nat_le at (end_of b (get_or ps (end - 1) (0, 0)).1) ≡ true
        → next_end < end
        → ((p : ℕ) → next_end ≤ p → p + 1 < end
        → nat_le at (end_of b (get_or ps p (0, 0)).1) ≡ false)
        → AddsFromEnd b ps x at start next_end earlier_pairs
        (pairs_so_far ++ ((get_or ps (end - 1) (0, 0)).1, x) ∷ [])
    added_open end next_end earlier_pairs pairs_so_far adds end_gt_0 last_symbol_is_x last_is_open
        next_lt_end skipped_are_closed =
        let last = get_or ps (end - 1) (0, 0) in
        let pushed = has_pair_push pairs_so_far last.1 x in
        let end_le_start = adds.end_le_start in
        record {
          end_le_start = omega arith;
          old_pairs_stay = λ j y had_pair. rw (pushed j y, adds.old_pairs_stay j y had_pair) refl;
          new_pairs_are_active = λ j y had_pair. elim (or_cases (has_pair pairs_so_far j y) _
              (sym (pushed j y) ∙ had_pair)) [
                | inl is_old ↦ adds.new_pairs_are_active j y is_old
                | inr is_last ↦
                    (let parts = and_parts (nat_eq j last.1) (nat_eq y x) is_last in
                    let j_is_last = eqb-true j last.1 parts.0 in
                    inr (
                      eqb-true y x parts.1,
                      rw (j_is_last, ← last_symbol_is_x) (has_pair_at_index ps (end - 1) (0, 0)
                          (omega (arith, is_parted.start_le_length))),
                      rw (
                        j_is_last,
                        lt-ltb last.1 at (is_before (end - 1) (omega arith)
                            last_symbol_is_x),
                      ) last_is_open,
                    ))
              ];
          active_pairs_are_added = λ p next_le_p p_lt_start p_has_x p_is_open.
              elim (cases_order (p + 1) end) [
                | inl p_order ↦
                    (let p_is_last : p ≡ end - 1 = omega arith in
                    rw (pushed _ x, p_is_last, eq-eqb last.1 last.1 refl, eq-eqb x x refl)
                    (or-true _))
                | inr (inl p_order) ↦ absurd (true≢false (sym p_is_open
                    ∙ skipped_are_closed p next_le_p p_order))
                | inr (inr p_order) ↦ rw (
                  pushed _ x,
                  adds.active_pairs_are_added p (omega arith)
                      p_lt_start p_has_x p_is_open,
                ) refl
              ];
        }

    -- a `$d` whose block is closed is passed over
    pub added_closed : (end next_end : ℕ) (earlier_pairs pairs_so_far : List (ℕ × ℕ))
        → AddsFromEnd b ps x at start end earlier_pairs pairs_so_far
        → 0 < end → nat_le at (end_of b (get_or ps (end - 1) (0, 0)).1) ≡ false
        → next_end < end
        → ((p : ℕ) → next_end ≤ p → p + 1 < end
        → nat_le at (end_of b (get_or ps p (0, 0)).1) ≡ false)
        → AddsFromEnd b ps x at start next_end earlier_pairs pairs_so_far
    added_closed end next_end earlier_pairs pairs_so_far adds end_gt_0 last_is_closed next_lt_end
        skipped_are_closed =
        record {
          end_le_start = omega (arith, adds.end_le_start);
          old_pairs_stay = adds.old_pairs_stay;
          new_pairs_are_active = adds.new_pairs_are_active;
          active_pairs_are_added = λ p next_le_p p_lt_start p_has_x p_is_open.
              elim (cases_order (p + 1) end) [
                | inl p_order ↦
                    (let p_is_last : p ≡ end - 1 = omega arith in
                    absurd (true≢false (sym p_is_open ∙ (rw p_is_last last_is_closed))))
                | inr (inl p_order) ↦ absurd (true≢false (sym p_is_open
                    ∙ skipped_are_closed p next_le_p p_order))
                | inr (inr p_order) ↦
                    adds.active_pairs_are_added p (omega arith) p_lt_start p_has_x p_is_open
              ];
        }

    -- none further down has the symbol
    pub none_before_end : (end : ℕ) → end ≤ start → (0 < end → (get_or ps (end - 1) (0, 0)).0 ≢ x)
        → (p : ℕ) → p < end → (get_or ps p (0, 0)).0 ≡ x → ⊥
    none_before_end end end_le_start last_symbol_ne_x p p_lt_end symbol_is_x =
        elim (cases_eq p (end - 1)) [
          | inl p_is_last ↦ last_symbol_ne_x (omega arith) (rw (← p_is_last) symbol_is_x)
          | inr p_ne_last ↦
              (let start_le_length = is_parted.start_le_length in
              let last = get_or ps (end - 1) (0, 0) in
              let later = earlier_is_before ps ps_are_rising p (end - 1) (0, 0) (omega arith)
              (omega arith) in
              let last_before = is_before_from_test last x at (is_parted.earlier_are_before
              (end - 1) (omega arith)) in
              let x_le_last : x ≤ last.0 = grind (arith, later) in
              let last_le_x : last.0 ≤ x = grind (arith, last_before) in
              last_symbol_ne_x (omega arith) (omega (arith, x_le_last, last_le_x)))
        ]

    -- a pair of the symbol and an earlier statement stands before index `start`
    pub pair_lt_start : (p : ℕ) → p < length ps → (get_or ps p (0, 0)).0 ≡ x
        → (get_or ps p (0, 0)).1 < at
        → p < start
    pair_lt_start p p_lt_length_ps symbol_is_x statement_lt_at = elim (cases_lt p start) [
      | inl p_lt ↦ p_lt
      | inr start_le ↦ absurd (true≢false (sym (is_pair_before_if (get_or ps p (0, 0)) x at
          (inr (symbol_is_x, statement_lt_at)))
          ∙ is_parted.later_are_not_before p start_le p_lt_length_ps))
    ]

    -- at the end exactly the active `$d` with the symbol have been added
    pub all_are_added : (end : ℕ) (earlier_pairs pairs_so_far : List (ℕ × ℕ))
        → AddsFromEnd b ps x at start end earlier_pairs pairs_so_far
        → (0 < end → (get_or ps (end - 1) (0, 0)).0 ≢ x)
        → (j y : ℕ)
        → has_pair pairs_so_far j y
        ≡ (has_pair earlier_pairs j y ||
        (nat_eq y x && (has_pair ps x j && is_active_local b j at)))
    all_are_added end earlier_pairs pairs_so_far adds last_symbol_ne_x j y =
        same_tests (has_pair pairs_so_far j y)
        (has_pair earlier_pairs j y || (nat_eq y x && (has_pair ps x j && is_active_local b j at)))
        (λ is_there. elim (adds.new_pairs_are_active j y is_there) [
          | inl is_old ↦ rw is_old refl
          | inr (y_is_x, is_pair, is_active) ↦
              rw (eq-eqb y x y_is_x, is_pair, is_active) (or-true _)
        ])
        (λ is_added. elim (or_cases (has_pair earlier_pairs j y) _ is_added) [
          | inl is_old ↦ adds.old_pairs_stay j y is_old
          | inr is_new ↦
              (let parts = and_parts (nat_eq y x) _ is_new in
              let members = and_parts (has_pair ps x j) (is_active_local b j at) parts.1 in
              let active = and_parts (nat_lt j at) (nat_le at (end_of b j)) members.1 in
              let found = index_of_pair ps x j members.0 in
              let p_lt_start = pair_lt_start found.index found.index_lt_length found.first_is_x
              (omega (arith, ltb-true j at active.0, found.second_is_y)) in
              rw (eqb-true y x parts.0, ← found.second_is_y) (elim (cases_lt found.index end) [
                | inl p_lt_end ↦ absurd (none_before_end end adds.end_le_start last_symbol_ne_x
                    found.index p_lt_end found.first_is_x)
                | inr end_le_p ↦ adds.active_pairs_are_added found.index end_le_p p_lt_start
                    found.first_is_x (rw found.second_is_y active.1)
              ]))
        ])

-- ---- whether two symbols have one together

-- an active statement that is paired with both symbols has its two pairs before `x_end` and `y_end`
pub record NoneInCommon (b : BlockLists) (ps : List (ℕ × ℕ)) (x y at x_end y_end : ℕ) : Type 0 where
  pub common_pairs_are_before_ends : (p q : ℕ) → p < length ps → q < length ps
      → (get_or ps p (0, 0)).0 ≡ x
      → (get_or ps q (0, 0)).0 ≡ y → (get_or ps p (0, 0)).1 ≡ (get_or ps q (0, 0)).1
      → is_active_local b (get_or ps p (0, 0)).1 at ≡ true → (p < x_end) × (q < y_end)

module _ (b : BlockLists) (ps : List (ℕ × ℕ)) (ps_are_rising : AreRising ps) (x y at : ℕ) where
  -- of two pairs of one symbol, the earlier has no greater statement
  statements_ascend : (q r : ℕ) → q ≤ r → r < length ps
      → (get_or ps q (0, 0)).0 ≡ (get_or ps r (0, 0)).0
      → (get_or ps q (0, 0)).1 ≤ (get_or ps r (0, 0)).1
  statements_ascend q r q_le_r r_lt_length_ps symbols_equal = elim (cases_eq q r) [
    | inl q_is_r ↦ rw q_is_r (omega arith)
    | inr q_ne_r ↦ elim (earlier_is_before ps ps_are_rising q r (0, 0) (omega arith)
        r_lt_length_ps) [
          | inl lower ↦ absurd (omega arith)
          | inr (same, lower) ↦ omega arith
        ]
  ]

  -- a `$d` whose block is closed is not active
  closed_is_inactive : (p : ℕ) → nat_le at (end_of b (get_or ps p (0, 0)).1) ≡ false
      → is_active_local b (get_or ps p (0, 0)).1 at ≡ true → ⊥
  closed_is_inactive p is_closed is_active = true≢false
      (sym (and_parts (nat_lt (get_or ps p (0, 0)).1 at) _ is_active).1 ∙ is_closed)

  -- the last of the one is of a later statement than the last of the other, or of the same, whose
  -- block is closed
  pub none_before_x_end : (x_end y_end next_end : ℕ) → NoneInCommon b ps x y at x_end y_end
      → 0 < x_end
      → x_end ≤ length ps → 0 < y_end → y_end ≤ length ps → (get_or ps (y_end - 1) (0, 0)).0 ≡ y
      → ((get_or ps (y_end - 1) (0, 0)).1 < (get_or ps (x_end - 1) (0, 0)).1)
      ⊎ (nat_le at (end_of b (get_or ps (x_end - 1) (0, 0)).1) ≡ false)
      → ((p : ℕ) → next_end ≤ p → p + 1 < x_end → nat_le at (end_of b (get_or ps p (0, 0)).1)
      ≡ false)
      → NoneInCommon b ps x y at next_end y_end
  none_before_x_end x_end y_end next_end none_in_common x_end_gt_0 x_end_le_length y_end_gt_0
      y_end_le_length last_has_y later_or_closed skipped_are_closed =
      record {
        common_pairs_are_before_ends = λ p q p_lt q_lt p_has_x q_has_y same is_active.
            let before = none_in_common.common_pairs_are_before_ends p q p_lt q_lt p_has_x q_has_y
            same is_active in
            let q_lt_y_end = before.1 in (
              elim (cases_lt p next_end) [
                | inl p_lt_next ↦ p_lt_next
                | inr next_le_p ↦ elim (cases_lt (p + 1) x_end) [
                  | inl p_before_last ↦ absurd (closed_is_inactive p
                      (skipped_are_closed p next_le_p p_before_last) is_active)
                  | inr p_at_end ↦
                      (let p_is_last : p ≡ x_end - 1 = omega (arith, before.0) in
                      elim later_or_closed [
                        | inr is_closed ↦
                            absurd (closed_is_inactive p (rw p_is_last is_closed) is_active)
                        | inl is_later ↦ absurd (omega (
                          arith,
                          is_later,
                          same,
                          ap (λ i. (get_or ps i (0, 0)).1) p_is_last,
                          statements_ascend q (y_end - 1) (omega arith) (omega arith)
                              (q_has_y ∙ sym last_has_y),
                        ))
                      ])
                ]
              ],
              before.1,
            );
      }

  -- the same by the other symbol first
  turned : {x_end y_end : ℕ} → NoneInCommon b ps x y at x_end y_end
      → NoneInCommon b ps y x at y_end x_end
  turned none_in_common = record {
    common_pairs_are_before_ends = λ p q p_lt q_lt p_has_y q_has_x same is_active.
        let before = none_in_common.common_pairs_are_before_ends q p q_lt p_lt q_has_x p_has_y
        (sym same) (rw (← same) is_active) in (before.1, before.0);
  }

module _ (b : BlockLists) (ps : List (ℕ × ℕ)) (ps_are_rising : AreRising ps) (x y at : ℕ) where
  -- the same with the two symbols exchanged
  pub none_before_y_end : (x_end y_end next_end : ℕ) → NoneInCommon b ps x y at x_end y_end
      → 0 < x_end
      → x_end ≤ length ps → 0 < y_end → y_end ≤ length ps → (get_or ps (x_end - 1) (0, 0)).0 ≡ x
      → (get_or ps (x_end - 1) (0, 0)).1 < (get_or ps (y_end - 1) (0, 0)).1
      → ((p : ℕ) → next_end ≤ p → p + 1 < y_end → nat_le at (end_of b (get_or ps p (0, 0)).1)
      ≡ false)
      → NoneInCommon b ps x y at x_end next_end
  none_before_y_end x_end y_end next_end none_in_common x_end_gt_0 x_end_le_length y_end_gt_0
      y_end_le_length last_has_x is_later skipped_are_closed =
      turned b ps ps_are_rising y x at (none_before_x_end b ps ps_are_rising y x at y_end x_end
      next_end (turned b ps ps_are_rising x y at none_in_common) y_end_gt_0 y_end_le_length
      x_end_gt_0 x_end_le_length last_has_x (inl is_later) skipped_are_closed)

  -- if one of the two symbols has no pair before its end, no active statement has both symbols
  pub none_at_end : (x_end y_end : ℕ) → NoneInCommon b ps x y at x_end y_end
      → ((p : ℕ) → p < x_end → (get_or ps p (0, 0)).0 ≡ x → ⊥)
      ⊎ ((p : ℕ) → p < y_end → (get_or ps p (0, 0)).0 ≡ y → ⊥)
      → (j : ℕ) → has_pair ps x j ≡ true → has_pair ps y j ≡ true → is_active_local b j at ≡ false
  none_at_end x_end y_end none_in_common x_or_y_exhausted j j_has_x j_has_y =
      false_from_ne_true (is_active_local b j at) (λ j_is_active.
      let x_found = index_of_pair ps x j j_has_x in
      let y_found = index_of_pair ps y j j_has_y in
      let before = none_in_common.common_pairs_are_before_ends x_found.index y_found.index
      x_found.index_lt_length y_found.index_lt_length x_found.first_is_x y_found.first_is_x
      (x_found.second_is_y ∙ sym y_found.second_is_y) (rw x_found.second_is_y j_is_active) in
      elim x_or_y_exhausted [
        | inl no_x ↦ no_x x_found.index before.0 x_found.first_is_x
        | inr no_y ↦ no_y y_found.index before.1 y_found.first_is_x
      ])
