-- How the rows of the `$d` are made, pair by pair.
use Rattle.std.proofs.Common.{◌≡◌, ℕ, ◌+◌, ◌-◌, ◌<◌, ◌≤◌, Bool, true, ◌&&◌, ◌||◌, List, [], ◌∷◌}
use Rattle.std.proofs.Common.{◌++◌, length, get_or, take, nat_eq, nat_lt, refl, sym, ap, ◌∙◌}
use Rattle.std.proofs.Common.{subst, arith, true≢false, ◌⊎◌, inl, inr, eqb-true}
use Rattle.std.proofs.Common.{map, Vec, false, set, drop, take_at}
use Rattle.std.proofs.lemmas.Bool.{cases_lt, cases_eq, or_cases, and_parts, lt-ltb}
use Rattle.std.proofs.lemmas.Bool.{ltb-true}
use Rattle.std.proofs.lemmas.Bool.Decides.{nat_tests}
use Rattle.std.proofs.lemmas.List.{get_or_push, get_or_append_left, length_push, get_or-take}
use Rattle.std.proofs.lemmas.List.{length-take-le, get_or_past, get_or-map, length-map}
use Rattle.std.proofs.lemmas.List.{get_or-set_same, get_or-set_other, length-set}
use Rattle.std.proofs.lemmas.List.Folds.{list_any_more, list_any-append}
use Rattle.std.proofs.Math.Bool.{or-false}
use Rattle.mm_spec.specs.Statement.{Statement}
use Rattle.mm_outline.specs.Blocks.{BlockLists, end_of}
use Rattle.mm_database.specs.Pairs.{has_pair, IsBefore}
use Rattle.mm_database.specs.DisjointIndex.{HaveBlocks, IsRow, IsRowOfPairs, row_of}
use Rattle.mm_database.specs.DisjointIndex.{has_narrow_pair, has_symbol_by_width}
use Rattle.mm_database.proofs.DisjointIndexLaw.{index_of_pair, has_pair_at_index}
use Rattle.mm_database.proofs.DisjointIndexLaw.{earlier_is_before}
use Rattle.mm_outline.specs.Blocks.{IsBlocks}
use Rattle.mm_database.proofs.DisjointIndexLaw.{disjoint_has_block}
use Rattle.mm_frame.specs.LowerLists.{DoStatementsRise}
use Rattle.mm_frame.specs.Rows.{HasBlock, is_pair, IsLastOf, IsRowFor, AddsToRow}
use Rattle.mm_frame.specs.Rows.{AreRowsFor, AreAllKnown}
use Rattle.mm_frame.proofs.ChainsLaw.{rising_append}

-- ---- one pair more in a row

-- the two are the pair
are_of_pair : (p : ℕ × ℕ) (y j : ℕ) → is_pair p y j ≡ true → (y ≡ p.0) × (j ≡ p.1)
are_of_pair p y j is_equal = (grind (arith, nat_tests), grind (arith, nat_tests))

-- the statements in a row with one pair more have a block
pub pushed_have_blocks : (b : BlockLists) (p : ℕ × ℕ) (row pushed : List (ℕ × ℕ))
    → pushed ≡ row ++ p ∷ [] → HaveBlocks b row → HasBlock b p → HaveBlocks b pushed
pushed_have_blocks b p row pushed pushed_are have has_block =
    rw pushed_are (λ k k_lt_pushed. elim (cases_lt k (length row)) [
      | inl k_lt_length ↦ rw (get_or_append_left row (p ∷ []) (0, 0) k k_lt_length)
          (have k k_lt_length)
      | inr length_le_k ↦ let pushed_length = length_push row p in
          rw (get_or_push row p (0, 0) k
          (omega (arith, k_lt_pushed, length_le_k, pushed_length))) has_block
    ])

module _ (b : BlockLists) (p : ℕ × ℕ) (row : List (ℕ × ℕ)) where
  abbrev last : ℕ × ℕ
  last = get_or row (length row - 1) (0, 0)

  -- the last pair of the row covers the pair
  pub row_without_pair : 0 < length row → p.0 ≡ last.0 → end_of b p.1 ≤ end_of b last.1
      → AddsToRow b p row row
  row_without_pair row_is_some same_symbol ends_no_later passes is_last is_row_for = record {
    is_row = is_row_for.is_row;
    are_pairs = record {
      pairs_pass = λ y j is_there. grind (arith, is_row_for.are_pairs.pairs_pass y j is_there);
      passing_are_covered = λ y j is_there. elim (or_cases (passes y j) (is_pair p y j) is_there) [
        | inl is_earlier ↦ is_row_for.are_pairs.passing_are_covered y j is_earlier
        | inr is_equal ↦ let (y_is, j_is) = are_of_pair p y j is_equal in record {
          covering = last.1;
          is_there = ap (λ z. has_pair row z last.1) (y_is ∙ same_symbol) ∙ last_is_there;
          covering_le = grind (
            arith,
            is_last last.0 last.1 (is_row_for.are_pairs.pairs_pass last.0 last.1 last_is_there),
            same_symbol,
            j_is,
          );
          ends_no_earlier = rw j_is ends_no_later;
        }
      ];
    };
  }
    where
      last_is_there : has_pair row last.0 last.1 ≡ true
      last_is_there = has_pair_at_index row (length row - 1) (0, 0) (omega (arith, row_is_some))

  -- the last pair of the row doesn't cover the pair
  module _ (has_block : HasBlock b p)
      (ends_later : 0 < length row → p.0 ≡ last.0 → end_of b last.1 < end_of b p.1)
      (passes : ℕ → ℕ → Bool) (is_last : IsLastOf passes p) (is_row_for : IsRowFor b passes row)
    where
      last_of_row : (y j : ℕ) → has_pair row y j ≡ true → has_pair row last.0 last.1 ≡ true
      last_of_row y j in_row =
          let q_lt = (index_of_pair row y j in_row).index_lt_length in
          has_pair_at_index row (length row - 1) (0, 0) (omega (arith, q_lt))

      no_later : (y j : ℕ) → has_pair row y j ≡ true
          → IsBefore y j p.0 p.1 ⊎ ((y ≡ p.0) × (j ≡ p.1))
      no_later y j in_row = is_last y j (is_row_for.are_pairs.pairs_pass y j in_row)

      -- a pair of the row with the pair's symbol ends before it
      ends_before : (y j : ℕ) → has_pair row y j ≡ true → y ≡ p.0 → end_of b j < end_of b p.1
      ends_before y j in_row y_is =
          let found = index_of_pair row y j in_row in
          let q = found.index in
          let q_lt = found.index_lt_length in
          let last_is_there = last_of_row y j in_row in
          let last_no_later = no_later last.0 last.1 last_is_there in
          let last_ends : last.0 ≡ y → end_of b last.1 < end_of b p.1 =
          λ last_is_y. ends_later (omega (arith, q_lt)) (sym y_is ∙ sym last_is_y) in
          elim (cases_eq q (length row - 1)) [
            | inl q_is_last ↦
                let at_last : get_or row q (0, 0) ≡ last =
                ap (λ r. get_or row r (0, 0)) q_is_last in
                let last_is_y : last.0 ≡ y = ap (λ (p : ℕ × ℕ). p.0) (sym at_last)
                ∙ found.first_is_x in
                let last_is_j : last.1 ≡ j = ap (λ (p : ℕ × ℕ). p.1) (sym at_last)
                ∙ found.second_is_y in
                subst (λ z. end_of b z < end_of b p.1) last_is_j (last_ends last_is_y)
            | inr q_ne_last ↦
                let q_before = earlier_is_before row is_row_for.is_row.rising q (length row - 1)
                (0, 0) (omega (arith, q_lt, q_ne_last)) (omega (arith, q_lt)) in
                let last_is_y : last.0 ≡ y = grind (
                  arith,
                  q_before,
                  last_no_later,
                  y_is,
                  found.first_is_x,
                ) in
                let j_ends = is_row_for.is_row.ends_rise y j last.1 in_row
                (ap (λ z. has_pair row z last.1) (sym last_is_y) ∙ last_is_there)
                (grind (arith, q_before, last_is_y, found.first_is_x, found.second_is_y)) in
                let last_ends_earlier = last_ends last_is_y in
                omega (arith, j_ends, last_ends_earlier)
          ]

      is_before : (y j : ℕ) → has_pair row y j ≡ true → IsBefore y j p.0 p.1
      is_before y j in_row = elim (no_later y j in_row) [
        | inl before ↦ before
        | inr (y_is, j_is) ↦ let ends = ends_before y j in_row y_is in
            absurd (omega (arith, ends, ap (end_of b) j_is))
      ]

      has_pushed : (y j : ℕ) → has_pair (row ++ p ∷ []) y j ≡ (has_pair row y j || is_pair p y j)
      has_pushed y j = list_any-append (λ q. nat_eq y q.0 && nat_eq j q.1) row (p ∷ [])
          ∙ ap (λ c. has_pair row y j || c) (or-false (is_pair p y j))

      in_either : (y j : ℕ) → has_pair (row ++ p ∷ []) y j ≡ true
          → (has_pair row y j ≡ true) ⊎ ((y ≡ p.0) × (j ≡ p.1))
      in_either y j is_there =
          elim (or_cases (has_pair row y j) (is_pair p y j) (sym (has_pushed y j) ∙ is_there)) [
            | inl in_row ↦ inl in_row
            | inr is_equal ↦ inr (are_of_pair p y j is_equal)
          ]

      ends_rise_in : (y j k : ℕ)
          → (has_pair row y j ≡ true) ⊎ ((y ≡ p.0) × (j ≡ p.1))
          → (has_pair row y k ≡ true) ⊎ ((y ≡ p.0) × (k ≡ p.1))
          → j < k → end_of b j < end_of b k
      ends_rise_in y j k (inl j_in_row) (inl k_in_row) j_lt_k =
          is_row_for.is_row.ends_rise y j k j_in_row k_in_row j_lt_k
      ends_rise_in y j k (inl j_in_row) (inr (y_is, k_is)) j_lt_k =
          rw k_is (ends_before y j j_in_row y_is)
      ends_rise_in y j k (inr (y_is, j_is)) (inl k_in_row) j_lt_k =
          absurd (grind (arith, is_before y k k_in_row, y_is, j_is, j_lt_k))
      ends_rise_in y j k (inr (y_is, j_is)) (inr (y_is_too, k_is)) j_lt_k =
          absurd (omega (arith, j_is, k_is, j_lt_k))

      pub row_with_pair : (pushed : List (ℕ × ℕ)) → pushed ≡ row ++ p ∷ []
          → IsRowFor b (λ y j. passes y j || is_pair p y j) pushed
      row_with_pair pushed pushed_are = rw pushed_are (record {
        is_row = record {
          rising = rising_append row (p ∷ []) is_row_for.is_row.rising
              (λ x y is_there. absurd (true≢false (sym is_there)), tt)
              (λ a c x y in_row is_there. let (x_is, y_is) = are_of_pair p x y
              (sym (or-false (is_pair p x y)) ∙ is_there) in
              rw (x_is, y_is) (is_before a c in_row));
          known = pushed_have_blocks b p row (row ++ p ∷ []) refl is_row_for.is_row.known has_block;
          ends_rise = λ y j k has_j has_k j_lt_k. ends_rise_in y j k (in_either y j has_j)
              (in_either y k has_k) j_lt_k;
        };
        are_pairs = record {
          pairs_pass = λ y j is_there. grind (
            arith,
            has_pushed y j,
            is_row_for.are_pairs.pairs_pass y j,
          );
          passing_are_covered = λ y j is_there.
              elim (or_cases (passes y j) (is_pair p y j) is_there) [
                | inl is_earlier ↦
                    let before = is_row_for.are_pairs.passing_are_covered y j is_earlier in record {
                      covering = before.covering;
                      is_there = grind (arith, has_pushed y before.covering, before.is_there);
                      covering_le = before.covering_le;
                      ends_no_earlier = before.ends_no_earlier;
                    }
                | inr is_equal ↦ record {
                  covering = j;
                  is_there = grind (arith, has_pushed y j, is_equal);
                  covering_le = omega arith;
                  ends_no_earlier = omega arith;
                }
              ];
        };
      })

-- a row of equal tests
pub row_of_equal_tests : (b : BlockLists) (t u : ℕ → ℕ → Bool) (row : List (ℕ × ℕ))
    → ((y j : ℕ) → t y j ≡ u y j) → IsRowFor b t row → IsRowFor b u row
row_of_equal_tests b t u row tests_equal is_row_for = record {
  is_row = is_row_for.is_row;
  are_pairs = record {
    pairs_pass = λ y j is_there. sym (tests_equal y j)
        ∙ is_row_for.are_pairs.pairs_pass y j is_there;
    passing_are_covered = λ y j passes. is_row_for.are_pairs.passing_are_covered y j
        (tests_equal y j ∙ passes);
  };
}

-- a row without pairs is that of a test that nothing passes
pub empty_row : (b : BlockLists) (passes : ℕ → ℕ → Bool) (row : List (ℕ × ℕ)) → row ≡ []
    → ((y j : ℕ) → passes y j ≡ true → ⊥) → IsRowFor b passes row
empty_row b passes row row_is none_passes = rw row_is (record {
  is_row = record {
    rising = tt;
    known = λ p p_lt_length. absurd (omega (arith, p_lt_length));
    ends_rise = λ y i j has_i. absurd (true≢false (sym has_i));
  };
  are_pairs = record {
    pairs_pass = λ y j is_there. absurd (true≢false (sym is_there));
    passing_are_covered = λ y j passes_it. absurd (none_passes y j passes_it);
  };
})

-- ---- the rows of all symbols

module _ {A : Type 0} (b : BlockLists) (p : ℕ × ℕ) where
  -- the row of symbol s was replaced
  module _ (rows : List (Vec (ℕ × ℕ) A)) (s : ℕ) (row : Vec (ℕ × ℕ) A) (s_lt : s < length rows)
    where
      pub known_with_row : AreAllKnown b rows → HaveBlocks b row.items
          → AreAllKnown b (set rows s row)
      known_with_row are_known is_known x d x_lt = elim (cases_eq x s) [
        | inl x_is ↦ rw (x_is, get_or-set_same rows s row d s_lt) is_known
        | inr x_isnt ↦ rw (get_or-set_other rows s x row d x_isnt)
            (are_known x d (subst (λ n. x < n) (length-set rows s row) x_lt))
      ]

      pub rows_with_row : (passes : ℕ → ℕ → ℕ → Bool) → IsLastOf (passes s) p → (e : Vec (ℕ × ℕ) A)
          → AddsToRow b p (get_or rows s e).items row.items → AreRowsFor b passes rows
          → AreRowsFor b (λ x y j. passes x y j || (nat_eq x s && is_pair p y j)) (set rows s row)
      rows_with_row passes is_last e adds are_rows x d x_lt = elim (cases_eq x s) [
        | inl x_is ↦ rw (x_is, get_or-set_same rows s row d s_lt)
            (row_of_equal_tests b (λ y j. passes s y j || is_pair p y j)
            (λ y j. passes s y j || (nat_eq s s && is_pair p y j)) row.items
            (λ y j. grind (arith, nat_tests)) (adds (passes s) is_last (are_rows s e s_lt)))
        | inr x_isnt ↦ rw (get_or-set_other rows s x row d x_isnt)
            (row_of_equal_tests b (passes x)
            (λ y j. passes x y j || (nat_eq x s && is_pair p y j)) _
            (λ y j. grind (arith, nat_tests, x_isnt))
            (are_rows x d (subst (λ n. x < n) (length-set rows s row) x_lt)))
      ]

  pub rows_of_equal_tests : (t u : ℕ → ℕ → ℕ → Bool) (rows : List (Vec (ℕ × ℕ) A))
      → ((x y j : ℕ) → t x y j ≡ u x y j) → AreRowsFor b t rows → AreRowsFor b u rows
  rows_of_equal_tests t u rows tests_equal are_rows x d x_lt =
      row_of_equal_tests b (t x) (u x) _ (tests_equal x) (are_rows x d x_lt)

-- with the next pair of a list each row has those of one pair more
module _ (passes : ℕ → ℕ → ℕ → Bool) (high : ℕ) (list : List (ℕ × ℕ)) (i : ℕ)
    (i_lt_length : i < length list)
  where
    abbrev next_pair : ℕ × ℕ
    next_pair = get_or list i (0, 0)

    abbrev so_far : ℕ → ℕ → ℕ → ℕ → Bool
    so_far n x y j = passes x y j || (nat_eq y high && has_pair (take n list) x j)

    -- no statement of an earlier pair is later
    earlier_statement_le : DoStatementsRise list → (x j : ℕ)
        → has_pair (take i list) x j ≡ true → j ≤ next_pair.1
    earlier_statement_le statements_rise x j is_there =
        let found = index_of_pair (take i list) x j is_there in
        let q = found.index in
        let q_lt_taken = found.index_lt_length in
        let taken_length = length-take-le i list (omega (arith, i_lt_length)) in
        let q_lt_i : q < i = omega (arith, q_lt_taken, taken_length) in
        let j_is : (get_or list q (0, 0)).1 ≡ j =
        ap (λ (p : ℕ × ℕ). p.1) (sym (get_or-take i list q (0, 0) q_lt_i)) ∙ found.second_is_y in
        let rises = statements_rise q i (omega (arith, q_lt_i)) i_lt_length in
        omega (arith, j_is, rises)

    pub next_is_last : ((x y j : ℕ) → passes x y j ≡ true → y < high) → DoStatementsRise list
        → (x : ℕ) → IsLastOf (so_far i x) (high, next_pair.1)
    next_is_last are_lower statements_rise x y j passes_it =
        elim (or_cases (passes x y j) (nat_eq y high && has_pair (take i list) x j) passes_it) [
          | inl is_earlier ↦ inl (inl (are_lower x y j is_earlier))
          | inr is_of_list ↦
              let (y_eq, is_there) = and_parts (nat_eq y high) (has_pair (take i list) x j)
              is_of_list in
              let y_is : y ≡ high = eqb-true y high y_eq in
              let j_le = earlier_statement_le statements_rise x j is_there in
              elim (cases_eq j next_pair.1) [
                | inl j_is ↦ inr (y_is, j_is)
                | inr j_isnt ↦ inl (inr (y_is, omega (arith, j_le, j_isnt)))
              ]
        ]

    pub rows_with_next : (x y j : ℕ)
        → (so_far i x y j || (nat_eq x next_pair.0 && is_pair (high, next_pair.1) y j))
        ≡ so_far (i + 1) x y j
    rows_with_next x y j =
        let more = list_any_more (λ p. nat_eq x p.0 && nat_eq j p.1) list i (0, 0) i_lt_length in
        grind (arith, more)

-- the rows of the symbols so far, with those of one symbol more
module _ (db : List Statement) (high : ℕ) (list : List (ℕ × ℕ))
    (members_are : (x j : ℕ) → has_pair list x j ≡ has_narrow_pair db x high j)
  where
    abbrev is_below : ℕ → ℕ → ℕ → ℕ → Bool
    is_below n x y j = nat_lt y n && has_narrow_pair db x y j

    pub rows_with_list : (x y j : ℕ)
        → (is_below high x y j || (nat_eq y high && has_pair list x j)) ≡ is_below (high + 1) x y j
    rows_with_list x y j = elim (cases_eq y high) [
      | inl y_is ↦ rw y_is (grind (arith, nat_tests, members_are x j))
      | inr y_isnt ↦ grind (arith, nat_tests, y_isnt)
    ]

    pub below_are_lower : (x y j : ℕ) → is_below high x y j ≡ true → y < high
    below_are_lower x y j is_lower =
        ltb-true y high (and_parts (nat_lt y high) (has_narrow_pair db x y j) is_lower).0

    -- a pair of the list
    narrow_of_list : (p : ℕ) → p < length list
        → has_narrow_pair db (get_or list p (0, 0)).0 high (get_or list p (0, 0)).1 ≡ true
    narrow_of_list p p_lt =
        sym (members_are (get_or list p (0, 0)).0 (get_or list p (0, 0)).1)
        ∙ has_pair_at_index list p (0, 0) p_lt

    symbols_of_narrow : (x y j : ℕ) → has_narrow_pair db x y j ≡ true
        → (has_symbol_by_width db true x j ≡ true) × (has_symbol_by_width db true y j ≡ true)
    symbols_of_narrow x y j is_narrow_pair =
        (grind (arith, is_narrow_pair), grind (arith, is_narrow_pair))

    pub list_has_rows : (n : ℕ)
        → ((x j : ℕ) → has_symbol_by_width db true x j ≡ true → x < n)
        → (p : ℕ) → p < length list → (get_or list p (0, 0)).0 < n
    list_has_rows n all_lt p p_lt =
        all_lt (get_or list p (0, 0)).0 (get_or list p (0, 0)).1
        (symbols_of_narrow _ high _ (narrow_of_list p p_lt)).0

    pub list_has_blocks : (b : BlockLists) → IsBlocks db b → HaveBlocks b list
    list_has_blocks b are_blocks p p_lt =
        disjoint_has_block db b are_blocks true high (get_or list p (0, 0)).1
        (symbols_of_narrow _ high _ (narrow_of_list p p_lt)).1

-- where all symbols have a list, all pairs are below the count of lists
pub all_pairs_are_below : (db : List Statement) (n : ℕ)
    → ((x j : ℕ) → has_symbol_by_width db true x j ≡ true → x < n) → (x y j : ℕ)
    → (nat_lt y n && has_narrow_pair db x y j) ≡ has_narrow_pair db x y j
all_pairs_are_below db n all_lt x y j = by_pair (has_narrow_pair db x y j) refl
  where
    by_pair : (c : Bool) → has_narrow_pair db x y j ≡ c
        → (nat_lt y n && has_narrow_pair db x y j) ≡ has_narrow_pair db x y j
    by_pair true is_narrow_pair =
        let y_lt = all_lt y j (grind (arith, is_narrow_pair)) in
        grind (arith, lt-ltb y n y_lt)
    by_pair false is_none = grind (arith, is_none)

-- all rows, and empty ones behind them
module _ {A : Type 0} (db : List Statement) (b : BlockLists) (rows : List (Vec (ℕ × ℕ) A))
    (all_have_rows : (x j : ℕ) → has_symbol_by_width db true x j ≡ true → x < length rows)
    (are_rows : AreRowsFor b (has_narrow_pair db) rows)
  where
    first_row : (vs : List (Vec (ℕ × ℕ) A)) → 0 < length vs → Vec (ℕ × ℕ) A
    first_row [] is_some = absurd (omega (arith, is_some))
    first_row (v ∷ vs) is_some = v

    pub rows_of_all : (lists : List (List (ℕ × ℕ))) → lists ≡ map (λ v. v.items) rows → (x : ℕ)
        → IsRow b (row_of lists x) × IsRowOfPairs b (has_narrow_pair db x) (row_of lists x)
    rows_of_all lists lists_are x = elim (cases_lt x (length rows)) [
      | inl x_lt ↦
          let d = first_row rows (omega (arith, x_lt)) in
          let row = are_rows x d x_lt in
          let row_is : row_of lists x ≡ (get_or rows x d).items =
          ap (λ ls. row_of ls x) lists_are ∙ get_or-map (λ v. v.items) rows x d [] x_lt in
          rw row_is (row.is_row, row.are_pairs)
      | inr rows_le ↦
          let count = ap length lists_are ∙ length-map rows (λ v. v.items) in
          let row = empty_row b (has_narrow_pair db x) (row_of lists x)
          (get_or_past lists x [] (omega (arith, rows_le, count)))
          (λ y j passes. let x_lt = all_have_rows x j (grind (arith, passes)) in
          omega (arith, x_lt, rows_le)) in
          (row.is_row, row.are_pairs)
    ]

-- the slice of a whole list that was written to
pub written_whole : {X : Type 0} (old new : List X) (n : ℕ) → length new ≡ length old
    → length old ≡ n → take n (new ++ drop (length new) old) ≡ new
written_whole old new n length_stays length_is =
    take_at new (drop (length new) old) n (length_stays ∙ length_is)

-- without pairs no row is wrong, whatever is asked of them
module _ {A : Type 0} (b : BlockLists) (rows : List (Vec (ℕ × ℕ) A))
    (are_empty : (x : ℕ) (d : Vec (ℕ × ℕ) A) → x < length rows → (get_or rows x d).items ≡ [])
  where
    pub empty_are_known : AreAllKnown b rows
    empty_are_known x d x_lt = rw (are_empty x d x_lt) (λ p p_lt. absurd (omega (arith, p_lt)))

    pub empty_are_rows : (db : List Statement)
        → AreRowsFor b (λ x y j. nat_lt y 0 && has_narrow_pair db x y j) rows
    empty_are_rows db x d x_lt =
        empty_row b (λ y j. nat_lt y 0 && has_narrow_pair db x y j) (get_or rows x d).items
        (are_empty x d x_lt)
        (λ y j passes. let is_lower = (and_parts (nat_lt y 0) (has_narrow_pair db x y j) passes).0 in
        let y_lt = ltb-true y 0 is_lower in
        omega (arith, y_lt))
