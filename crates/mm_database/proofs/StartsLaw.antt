-- Where the pairs of each symbol begin, one pair after the other.
use Rattle.std.proofs.Common.{rules, ◌≡◌, ℕ, ◌+◌, ◌-◌, ◌<◌, ◌≤◌, true, false, List, [], ◌∷◌, ◌++◌}
use Rattle.std.proofs.Common.{length, get_or, slice_range, drop, sym, ◌∙◌, arith, inl, inr}
use Rattle.std.proofs.Common.{length-append, nat_lt, true≢false}
use Rattle.std.proofs.lemmas.Bool.Decides.{nat_tests}
use Rattle.std.proofs.lemmas.Bool.{cases_lt, cases_eq, lt-ltb, ltb-true, false_from_ne_true}
use Rattle.std.specs.List.Sorted.{IsPartitionedBy, IsPartitionPoint}
use Rattle.std.proofs.lemmas.List.{get_or_push, get_or_append_left, get_or_past, get_or_default}
use Rattle.std.proofs.lemmas.List.{get_or-take, get_or-drop, length-take-le, length-drop}
use Rattle.mm_database.specs.Pairs.{is_pair_before, AreRising}
use Rattle.mm_database.specs.Starts.{IsStart, AreStarts}
use Rattle.mm_database.proofs.DisjointIndexLaw.{earlier_is_before, is_pair_before_if}
use Rattle.mm_database.proofs.DisjointIndexLaw.{is_before_from_test}

-- the starts that the first n pairs tell
pub record StartsTo (ps : List (ℕ × ℕ)) (n : ℕ) (starts : List ℕ) : Type 0 where
  pub starts_are : (x : ℕ) → x < length starts → IsStart ps x (get_or starts x 0)
  pub symbols_have_starts : (p : ℕ) → p < n → (get_or ps p (0, 0)).0 < length starts

-- later pairs are of no earlier symbol
symbols_ascend : (ps : List (ℕ × ℕ)) → AreRising ps → (i j : ℕ) → i ≤ j → j < length ps
    → (get_or ps i (0, 0)).0 ≤ (get_or ps j (0, 0)).0
symbols_ascend ps are_rising i j i_le_j j_lt_length =
    grind (arith, nat_tests, cases_eq, earlier_is_before)

-- a symbol more, up to that of pair n
pub starts_push : (ps : List (ℕ × ℕ)) (n : ℕ) (starts : List ℕ) → AreRising ps → n < length ps
    → length starts ≤ (get_or ps n (0, 0)).0 → StartsTo ps n starts
    → StartsTo ps n (starts ++ n ∷ [])
starts_push ps n starts are_rising n_lt_length starts_le_symbol starts_to_n =
    search (rules, arith, cases_eq, length-append, symbols_ascend, get_or_push, get_or_append_left)

-- the starts for the first n pairs are those for all pairs, if there are no more than n
pub starts_of_all_pairs : (ps : List (ℕ × ℕ)) (n : ℕ) (starts : List ℕ) → length ps ≤ n
    → StartsTo ps n starts → AreStarts ps starts
starts_of_all_pairs ps n starts length_le_n starts_to_n x =
    grind (arith, nat_tests, cases_lt, get_or_default, get_or_past)

-- ---- among the pairs of one symbol

module _ (ps : List (ℕ × ℕ)) (ps_are_rising : AreRising ps) (x at from to : ℕ)
    (from_starts_x : IsStart ps x from) (to_ends_x : IsStart ps (x + 1) to) where
  -- the pairs between the two starts are those of the symbol
  symbol_is_x : (p : ℕ) (d : ℕ × ℕ) → from ≤ p → p < to → (get_or ps p d).0 ≡ x
  symbol_is_x p d from_le_p p_lt_to =
      let p_lt_length : p < length ps = omega (arith, to_ends_x.start_le_length) in
      rw (get_or_default ps p d (0, 0) p_lt_length) (omega (
        arith,
        to_ends_x.earlier_are_lower p
            p_lt_to,
        from_starts_x.later_are_no_lower p from_le_p p_lt_length,
      ))

  -- they are a slice of all pairs
  element_of_slice : (i : ℕ) (d : ℕ × ℕ) → i < to - from
      → get_or (slice_range ps from to) i d ≡ get_or ps (from + i) d
  element_of_slice i d i_lt_width =
      rw (get_or-take (to - from) (drop from ps) i d i_lt_width) (get_or-drop from ps i d)

  slice_length : length (slice_range ps from to) ≡ to - from
  slice_length = length-take-le (to - from) (drop from ps)
      (omega (arith, length-drop from ps, to_ends_x.start_le_length))

  -- among them those with a lower statement stand first
  pub slice_is_partitioned : IsPartitionedBy (λ p. nat_lt p.1 at) (slice_range ps from to)
  slice_is_partitioned i j d i_le_j j_lt_length j_is_lower = elim (cases_eq i j) [
    | inl i_is_j ↦ rw i_is_j j_is_lower
    | inr i_ne_j ↦
        (let j_lt_width : j < to - from = rw slice_length at j_lt_length in
        let j_lt_at = ltb-true _ at (rw (element_of_slice j d j_lt_width) at j_is_lower) in
        rw (element_of_slice i d (omega arith)) (lt-ltb (get_or ps (from + i) d).1 at
        (elim (earlier_is_before ps ps_are_rising (from + i) (from + j) d (omega arith)
        (omega (arith, to_ends_x.start_le_length))) [
          | inl symbol_lt ↦ absurd (omega (
            arith,
            symbol_is_x (from + i) d (omega arith)
                (omega arith),
            symbol_is_x (from + j) d (omega arith) (omega arith),
          ))
          | inr (same, statement_lt) ↦ omega (arith, j_lt_at)
        ])))
  ]

  module _ (n : ℕ) (bound : n ≤ length (slice_range ps from to))
      (is_point : IsPartitionPoint (λ y. nat_lt y.1 at ≡ true) (λ y. nat_lt y.1 at ≡ false)
      (slice_range ps from to) n) where
    -- so with n of them the pairs before are counted, and no others
    pub pair_before_point_is_before : (p : ℕ) → p < from + n
        → is_pair_before (get_or ps p (0, 0)) x at ≡ true
    pair_before_point_is_before p p_lt_point = is_pair_before_if (get_or ps p (0, 0)) x at
        (elim (cases_lt p from) [
          | inl p_lt_from ↦ inl (from_starts_x.earlier_are_lower p p_lt_from)
          | inr from_le_p ↦
              (let index_lt_width : p - from < to - from = omega (arith, slice_length) in
              let from_plus_index_is_p : from + (p - from) ≡ p = omega arith in
              inr (
                symbol_is_x p (0, 0) from_le_p (omega arith),
                ltb-true _ at (rw (
                  element_of_slice (p - from) (0, 0) index_lt_width,
                  from_plus_index_is_p,
                ) at (is_point.0 (p - from) (0, 0) (omega arith)
                    (omega arith))),
              ))
        ])

    pub pair_after_point_is_not_before : (p : ℕ) → from + n ≤ p → p < length ps
        → is_pair_before (get_or ps p (0, 0)) x at ≡ false
    pair_after_point_is_not_before p point_le_p p_lt_length_ps =
        false_from_ne_true (is_pair_before (get_or ps p (0, 0)) x at) (λ test_is_true.
        let is_before_x = is_before_from_test (get_or ps p (0, 0)) x at test_is_true in
        elim (cases_lt p to) [
          | inr to_le_p ↦ grind (
            arith,
            is_before_x,
            to_ends_x.later_are_no_lower p to_le_p p_lt_length_ps,
          )
          | inl p_lt_to ↦ elim is_before_x [
            | inl symbol_lt ↦ omega (arith, symbol_is_x p (0, 0) (omega arith) p_lt_to)
            | inr (same, statement_lt) ↦
                (let index_lt_width : p - from < to - from = omega arith in
                let from_plus_index_is_p : from + (p - from) ≡ p = omega arith in
                true≢false (sym (lt-ltb _ at statement_lt)
                ∙ (rw (element_of_slice (p - from) (0, 0) index_lt_width, from_plus_index_is_p) at
                (is_point.1 (p - from) (0, 0) (omega arith) (omega (arith, slice_length))))))
          ]
        ])
