-- How the skips of the index are found, one after the other.
use Rattle.std.proofs.Common.{◌≡◌, ℕ, ◌+◌, ◌-◌, ◌<◌, ◌≤◌, true, ◌&&◌, List, [], ◌∷◌, ◌++◌, length}
use Rattle.std.proofs.Common.{get_or, nat_eq, nat_le, refl, sym, ap, ◌∙◌, subst, arith, inl, inr}
use Rattle.std.proofs.Common.{length-append}
use Rattle.std.proofs.lemmas.Bool.{cases_lt}
use Rattle.std.proofs.lemmas.Grind.{get_or_default_zero}
use Rattle.std.proofs.lemmas.List.{get_or_append_left, get_or_push}
use Rattle.std.proofs.lemmas.Bool.Decides.{nat_tests}
use Rattle.mm_outline.specs.Blocks.{BlockLists, end_of}
use Rattle.mm_database.specs.DisjointIndex.{IsCovered, Covers, AreSkips}

module _ (b : BlockLists) (ps : List (ℕ × ℕ)) where
  -- the pair with an index
  abbrev pair_at : ℕ → ℕ × ℕ
  pair_at i = get_or ps i (0, 0)

  -- the skips of the pairs before index `index`
  abbrev pub AreSkipsSoFar : ℕ → List ℕ → Type 0
  AreSkipsSoFar index skips =
      (length skips ≡ index)
      × ((q : ℕ) → q < index → (get_or skips q 0 ≤ q) × Covers b ps (get_or skips q 0) q)

  -- a pair covers itself
  pub covers_itself : (q : ℕ) → Covers b ps q q
  covers_itself q p q_le_p p_le_q =
      let q_is_p : q ≡ p = omega arith in
      subst (λ i. IsCovered b (pair_at i) (pair_at q)) q_is_p (refl, omega arith)

  -- the pair before `first` is covered, and so are those which it covers
  pub covers_before : (first index s : ℕ) → 0 < first → first ≤ index → Covers b ps first index
      → (nat_eq (pair_at (first - 1)).0 (pair_at index).0
      && nat_le (end_of b (pair_at (first - 1)).1) (end_of b (pair_at index).1)) ≡ true
      → (s ≤ first - 1) × Covers b ps s (first - 1) → (s ≤ index) × Covers b ps s index
  covers_before first index s first_positive first_le_index first_covers is_covered s_covers =
      let s_le_previous = s_covers.0 in (
        omega (arith, first_positive, first_le_index, s_le_previous),
        λ p s_le_p p_le_index. elim (cases_lt p first) [
          | inr first_le_p ↦ first_covers p first_le_p p_le_index
          | inl p_lt_first ↦
              let (symbols_equal, end_le) = s_covers.1 p s_le_p (omega (arith, p_lt_first)) in (
                grind (arith, nat_tests, symbols_equal, is_covered),
                grind (arith, nat_tests, end_le, is_covered),
              )
        ],
      )

  -- a skip that was found is no later than its pair
  pub skip_covers : (index : ℕ) (skips : List ℕ) → AreSkipsSoFar index skips → (q r d : ℕ)
      → q < index → r ≡ get_or skips q d → (r ≤ q) × Covers b ps r q
  skip_covers index skips are_so_far q r d q_lt_index r_is_skip =
      let skips_length = are_so_far.0 in
      subst (λ s. (s ≤ q) × Covers b ps s q)
      (sym (r_is_skip ∙ get_or_default_zero skips q d (omega (arith, q_lt_index, skips_length))))
      (are_so_far.1 q q_lt_index)

  -- the skips so far, with that of the next pair
  pub skips_with_next : (index s : ℕ) (skips : List ℕ) → AreSkipsSoFar index skips
      → (s ≤ index) × Covers b ps s index
      → (pushed : List ℕ) → pushed ≡ skips ++ s ∷ [] → AreSkipsSoFar (index + 1) pushed
  skips_with_next index s skips are_so_far s_covers pushed more_is_pushed = (
    ap length more_is_pushed ∙ length-append skips (s ∷ []) ∙ ap (λ n. n + 1) are_so_far.0,
    λ q q_lt_next. elim (cases_lt q index) [
      | inl q_lt_index ↦ rw (
        more_is_pushed,
        get_or_append_left skips (s ∷ []) 0 q
            (let skips_length = are_so_far.0 in omega (arith, q_lt_index, skips_length)),
      )
          (are_so_far.1 q q_lt_index)
      | inr index_le_q ↦
          let q_is_index : q ≡ index = omega (arith, index_le_q, q_lt_next) in
          let skips_length = are_so_far.0 in
          rw (
            more_is_pushed,
            get_or_push skips s 0 q (omega (arith, q_is_index, skips_length)),
            q_is_index,
          ) s_covers
    ],
  )

  -- at the end the skips so far are all of them
  pub so_far_are_skips : (index : ℕ) (skips : List ℕ) → AreSkipsSoFar index skips
      → index ≤ length ps → length ps ≤ index → AreSkips b ps skips
  so_far_are_skips index skips are_so_far index_le_length length_le_index = record {
    count = (let skips_length = are_so_far.0 in
        omega (arith, skips_length, index_le_length, length_le_index));
    within = λ q q_lt_length.
        (are_so_far.1 q (omega (arith, q_lt_length, index_le_length, length_le_index))).0;
    covers = λ q q_lt_length.
        (are_so_far.1 q (omega (arith, q_lt_length, index_le_length, length_le_index))).1;
  }
