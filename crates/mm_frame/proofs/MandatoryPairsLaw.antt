-- The pairs that are collected are the mandatory ones, and whether two variables are disjoint is
-- asked of the same lists.
use Rattle.std.proofs.Common.{◌≡◌, ◌≢◌, ℕ, suc, ◌+◌, ◌<◌, ◌≤◌, Bool, true, false, ◌&&◌, ◌||◌, not}
use Rattle.std.proofs.Common.{List, [], ◌∷◌, ◌++◌, length, get_or, map, nat_eq, nat_lt, sym, ap}
use Rattle.std.proofs.Common.{ap₂, ◌∙◌, arith, true≢false, ◌⊎◌, inl, inr}
use Rattle.std.proofs.lemmas.Bool.{cases_lt, cases_eq, cases_order, lt-ltb, or_cases, ne_eqb}
use Rattle.std.proofs.lemmas.Bool.{cases_Bool}
use Rattle.std.proofs.lemmas.List.Folds.{list_any_at, list_any-append}
use Rattle.std.specs.List.{list_any, range_with_len, filter}
use Rattle.std.proofs.Math.Bool.{or-false}
use Rattle.mm_spec.specs.Statement.{Statement}
use Rattle.mm_spec.specs.Scope.{statement_at}
use Rattle.mm_spec.specs.Derivation.{Pair, pair, is_member}
use Rattle.mm_spec.specs.Frame.{symbol_names, is_disjoint_statement, formula_at}
use Rattle.mm_spec.specs.Frame.{mandatory_variables, mandatory_pairs, disjoint_at, pairs_below}
use Rattle.mm_spec.proofs.BoolLaw.{same_tests}
use Rattle.std.proofs.lemmas.Bool.Decides.{nat_tests}
use Rattle.mm_database.proofs.DisjointIndexLaw.{HasIndex, index_of_pair, has_pair_at_index}
use Rattle.mm_database.proofs.DisjointIndexLaw.{earlier_is_before}
use Rattle.mm_spec.proofs.MemberLaw.{member_range}
use Rattle.mm_outline.specs.Blocks.{BlockLists, IsBlocks}
use Rattle.mm_database.specs.DisjointIndex.{has_symbol_by_width, is_disjoint_by_width, IsRowOfPairs}
use Rattle.mm_database.specs.DisjointIndex.{has_narrow_pair, is_narrow, is_active_local, row_of}
use Rattle.mm_database.specs.Pairs.{has_pair, AreRising}
use Rattle.mm_database.proofs.TogetherLaw.{HasBoth, together_from_both, both_from_together}
use Rattle.mm_database.proofs.TogetherLaw.{row_is_together, narrow_is_in_row}
use Rattle.mm_frame.specs.Together.{has_later, is_higher_variable_in_rows}
use Rattle.mm_frame.proofs.HypothesesLaw.{mandatory_has_name}
use Rattle.mm_frame.proofs.PairsLaw.{has_mapped_pair, mapped_are_sorted}
use Rattle.mm_frame.proofs.PairsLaw.{sorted_with_same_members_equal, has_filtered_pair}
use Rattle.mm_frame.proofs.PairsLaw.{has_pair_in_rows, filtered_are_sorted, all_pairs_are_sorted}

-- if some pair passes a test, there is an index where it does
index_where_test_holds : (f : ℕ × ℕ → Bool) (ps : List (ℕ × ℕ)) → list_any f ps ≡ true
    → (p : ℕ) × (p < length ps) × (f (get_or ps p (0, 0)) ≡ true)
index_where_test_holds f [] some_passes = absurd (true≢false (sym some_passes))
index_where_test_holds f (q ∷ qs) some_passes = elim (cases_Bool (f q)) [
  | inl passes ↦ (0, omega arith, passes)
  | inr fails ↦
      let (p, p_lt_length, passes) = index_where_test_holds f qs (grind (arith, some_passes, fails))
      in (suc p, omega (arith, p_lt_length), passes)
]

-- ---- the variables after one, in the same statement

-- the pairs after index `first` and before index `end` have been looked at
pub record AddsLater (by_statement : List (ℕ × ℕ)) (first end : ℕ)
    (earlier_pairs pairs_so_far : List (ℕ × ℕ)) : Type 0
  where
    pub first_lt_end : first < end
    pub end_le_length : end ≤ length by_statement
    pub statement_is_same : (p : ℕ) → first < p → p < end
        → (get_or by_statement p (0, 0)).0 ≡ (get_or by_statement first (0, 0)).0
    pub earlier_pairs_stay : (x y : ℕ) → has_pair earlier_pairs x y ≡ true
        → has_pair pairs_so_far x y ≡ true
    pub new_pairs_are_later : (x y : ℕ) → has_pair pairs_so_far x y ≡ true
        → (has_pair earlier_pairs x y ≡ true)
        ⊎ ((x ≡ (get_or by_statement first (0, 0)).1) × (p : ℕ) × (first < p) × (p < end)
        × ((get_or by_statement p (0, 0)).1 ≡ y))
    pub later_pairs_are_added : (p : ℕ) → first < p → p < end
        → has_pair pairs_so_far (get_or by_statement first (0, 0)).1
        (get_or by_statement p (0, 0)).1 ≡ true

module _ (by_statement : List (ℕ × ℕ)) (pairs_are_rising : AreRising by_statement) (first : ℕ)
    (first_lt_length : first < length by_statement) where
  -- the statement of the first pair
  abbrev j : ℕ
  j = (get_or by_statement first (0, 0)).0

  -- the symbol of the first pair, the lower one
  abbrev low : ℕ
  low = (get_or by_statement first (0, 0)).1

  -- right after the first pair no later pair was added yet
  pub adds_later_at_start : (earlier_pairs : List (ℕ × ℕ))
      → AddsLater by_statement first (first + 1) earlier_pairs earlier_pairs
  adds_later_at_start earlier_pairs =
      record {
        first_lt_end = omega arith;
        end_le_length = omega (arith, first_lt_length);
        statement_is_same = λ p first_lt_p p_lt_next. absurd (omega (arith, first_lt_p, p_lt_next));
        earlier_pairs_stay = λ x y had_pair. had_pair;
        new_pairs_are_later = λ x y had_pair. inl had_pair;
        later_pairs_are_added =
            λ p first_lt_p p_lt_next. absurd (omega (arith, first_lt_p, p_lt_next));
      }

  -- a later pair of the same statement is added
  pub adds_later_with_pair : (end : ℕ) (earlier_pairs pairs_so_far : List (ℕ × ℕ))
      → AddsLater by_statement first end earlier_pairs pairs_so_far
      → end < length by_statement → (get_or by_statement end (0, 0)).0 ≡ j
      → AddsLater by_statement first (end + 1) earlier_pairs
      (pairs_so_far ++ (low, (get_or by_statement end (0, 0)).1) ∷ [])
  adds_later_with_pair end earlier_pairs pairs_so_far adds end_lt_length same_statement =
      record {
        first_lt_end = let first_lt_end = adds.first_lt_end in omega (arith, first_lt_end);
        end_le_length = omega (arith, end_lt_length);
        statement_is_same = λ p first_lt_p p_lt_next. elim (cases_eq p end) [
          | inl p_is_end ↦ ap (λ i. (get_or by_statement i (0, 0)).0) p_is_end ∙ same_statement
          | inr p_ne_end ↦ adds.statement_is_same p first_lt_p (omega (arith, p_lt_next, p_ne_end))
        ];
        earlier_pairs_stay = λ x y had_pair. grind (arith, has_pushed x y);
        new_pairs_are_later = λ x y had_pair. elim (or_cases (has_pair pairs_so_far x y)
            (nat_eq x low && nat_eq y high) (sym (has_pushed x y) ∙ had_pair)) [
              | inl was_there ↦ elim (adds.new_pairs_are_later x y was_there) [
                | inl was_earlier ↦ inl was_earlier
                | inr (x_is_low, p, first_lt_p, p_lt_end, variable_is_y) ↦
                    inr (x_is_low, p, first_lt_p, omega (arith, p_lt_end), variable_is_y)
              ]
              | inr is_new ↦ let first_lt_end = adds.first_lt_end in
                  inr (
                    grind (arith, nat_tests, is_new),
                    end,
                    first_lt_end,
                    omega arith,
                    grind (arith, nat_tests, is_new),
                  )
            ];
        later_pairs_are_added = λ p first_lt_p p_lt_next. elim (cases_eq p end) [
          | inl p_is_end ↦ rw p_is_end (grind (arith, nat_tests, has_pushed low high))
          | inr p_ne_end ↦ grind (arith, has_pushed low (get_or by_statement p (0, 0)).1)
        ];
      }
    where
      high : ℕ
      high = (get_or by_statement end (0, 0)).1

      has_pushed : (x y : ℕ) → has_pair (pairs_so_far ++ (low, high) ∷ []) x y
          ≡ (has_pair pairs_so_far x y || (nat_eq x low && nat_eq y high))
      has_pushed x y =
          list_any-append (λ p. nat_eq x p.0 && nat_eq y p.1) pairs_so_far ((low, high) ∷ [])
          ∙ ap (λ c. has_pair pairs_so_far x y || c) (or-false (nat_eq x low && nat_eq y high))

  -- where the statement ends, all its later pairs were added
  pub adds_later_at_end : (end : ℕ) (earlier_pairs pairs_so_far : List (ℕ × ℕ))
      → AddsLater by_statement first end earlier_pairs pairs_so_far
      → (end < length by_statement → (get_or by_statement end (0, 0)).0 ≢ j)
      → (x y : ℕ)
      → has_pair pairs_so_far x y
      ≡ (has_pair earlier_pairs x y || has_later by_statement (get_or by_statement first
      (0, 0)) x y)
  adds_later_at_end end earlier_pairs pairs_so_far adds statement_ends x y =
      same_tests (has_pair pairs_so_far x y)
      (has_pair earlier_pairs x y || (nat_eq x low && (has_pair by_statement j y && nat_lt x y)))
      (λ had_pair. elim (adds.new_pairs_are_later x y had_pair) [
        | inl was_earlier ↦ grind (arith, was_earlier)
        | inr (x_is_low, p, first_lt_p, p_lt_end, variable_is_y) ↦
            let end_le_length = adds.end_le_length in
            let p_lt_length : p < length by_statement = omega (arith, p_lt_end, end_le_length) in
            let before = earlier_is_before by_statement pairs_are_rising first p (0, 0) first_lt_p
            p_lt_length in
            let has_pair_j_y = ap₂ (has_pair by_statement)
            (sym (adds.statement_is_same p first_lt_p p_lt_end)) (sym variable_is_y)
            ∙ has_pair_at_index by_statement p (0, 0) p_lt_length in
            grind (arith, adds.statement_is_same p first_lt_p p_lt_end)
      ])
      (λ is_one. elim (or_cases (has_pair earlier_pairs x y)
      (nat_eq x low && (has_pair by_statement j y && nat_lt x y)) is_one) [
        | inl was_earlier ↦ adds.earlier_pairs_stay x y was_earlier
        | inr is_later ↦ later_is_added
            (index_of_pair by_statement j y (grind (arith, is_later))) is_later
      ])
    where
      index_in_range : (p : ℕ) → p < length by_statement → (get_or by_statement p (0, 0)).0 ≡ j
          → low < (get_or by_statement p (0, 0)).1 → (first < p) × (p < end)
      index_in_range p p_lt_length statement_is_j low_lt_variable = (
        elim (cases_order first p) [
          | inl first_is_p ↦ absurd (let variables_equal =
              ap (λ i. (get_or by_statement i (0, 0)).1) first_is_p in
              omega (arith, variables_equal, low_lt_variable))
          | inr (inl first_lt_p) ↦ first_lt_p
          | inr (inr p_lt_first) ↦ absurd (grind (
            arith,
            earlier_is_before by_statement
                pairs_are_rising p first (0, 0) p_lt_first first_lt_length,
          ))
        ],
        elim (cases_lt p end) [
          | inl p_lt_end ↦ p_lt_end
          | inr end_le_p ↦
              let end_lt_length : end < length by_statement = omega (arith, end_le_p, p_lt_length)
              in
              elim (cases_eq end p) [
                | inl end_is_p ↦ absurd (statement_ends end_lt_length
                    (ap (λ i. (get_or by_statement i (0, 0)).0) end_is_p ∙ statement_is_j))
                | inr end_ne_p ↦ absurd (grind (
                  arith,
                  statement_ends end_lt_length,
                  earlier_is_before by_statement pairs_are_rising first end (0, 0) adds.first_lt_end
                      end_lt_length,
                  earlier_is_before by_statement pairs_are_rising end p (0, 0)
                      (omega (arith, end_le_p, end_ne_p)) p_lt_length,
                ))
              ]
        ],
      )

      later_is_added : HasIndex by_statement j y
          → (nat_eq x low && (has_pair by_statement j y && nat_lt x y)) ≡ true
          → has_pair pairs_so_far x y ≡ true
      later_is_added found is_later =
          let x_is_low : x ≡ low = grind (arith, nat_tests, is_later) in
          let range = index_in_range found.index found.index_lt_length found.first_is_x
          (grind (arith, nat_tests, is_later, found.second_is_y)) in
          ap₂ (has_pair pairs_so_far) x_is_low (sym found.second_is_y)
          ∙ adds.later_pairs_are_added found.index range.0 range.1

-- ---- the mandatory pairs

module _ (db : List Statement) (b : BlockLists) (are_blocks : IsBlocks db b) (k : ℕ)
    (k_le_length : k ≤ length db) (rows : List (List (ℕ × ℕ)))
    (rows_are : (x : ℕ) → IsRowOfPairs b (has_narrow_pair db x) (row_of rows x)) (ps : List (ℕ × ℕ))
    (pairs_are_members : (x j : ℕ) → has_pair ps x j ≡ has_symbol_by_width db false x j)
    (variables : List ℕ)
    (by_statement : List (ℕ × ℕ))
    (variables_are : (x : ℕ) → is_member variables x ≡ is_member (mandatory_variables db k) x)
    (paired_is : (j y : ℕ)
    → has_pair by_statement j y ≡ (is_member variables y
    && (has_pair ps y j && is_active_local b j k)))
  where
    abbrev vs : List ℕ
    vs = mandatory_variables db k

    abbrev count : ℕ
    count = length (symbol_names db)

    abbrev wanted : Pair → Bool
    wanted p =
        nat_lt p.low p.high && is_member vs p.low && is_member vs p.high
        && disjoint_at db k p.low p.high

    -- whether two variables are in one of the wide `$d`
    abbrev pub together : ℕ → ℕ → Bool
    together x y = list_any (λ p. has_later by_statement p x y) by_statement

    -- whether they are in one `$d`
    abbrev pub in_one : ℕ → ℕ → Bool
    in_one x y = is_higher_variable_in_rows b rows variables k x y || together x y

    member_is_in_range : (x : ℕ) → is_member vs x ≡ true
        → is_member (range_with_len 0 count) x ≡ true
    member_is_in_range x x_is_member =
        let x_lt_count = mandatory_has_name db k x x_is_member in
        member_range count 0 x (omega arith) ∙ lt-ltb x (0 + count) (omega (arith, x_lt_count))

    -- two different mandatory variables in one active `$d`
    record AreMandatory (x y : ℕ) : Type 0 where
      pub x_lt_y : x < y
      pub x_is_member : is_member vs x ≡ true
      pub y_is_member : is_member vs y ≡ true
      pub both : HasBoth db b are_blocks k k_le_length x y

    -- a wide `$d` with a variable
    paired_is_active_member : (j y : ℕ) → has_pair by_statement j y ≡ true
        → (is_member vs y ≡ true) × (is_member (formula_at db j) y ≡ true)
        × (list_any is_disjoint_statement (statement_at db j) ≡ true)
        × (is_active_local b j k ≡ true)
    paired_is_active_member j y has_pair_j_y =
        let is_paired = sym (paired_is j y) ∙ has_pair_j_y in (
          grind (arith, is_paired, variables_are y),
          grind (arith, is_paired, pairs_are_members y j),
          grind (arith, is_paired, pairs_are_members y j),
          grind (arith, is_paired),
        )

    wide_member_is_paired : (j y : ℕ) → is_member vs y ≡ true
        → is_disjoint_by_width db false j ≡ true
        → is_member (formula_at db j) y ≡ true
        → is_active_local b j k ≡ true → has_pair by_statement j y ≡ true
    wide_member_is_paired j y y_is_member j_is_wide j_has_y j_is_active =
        grind (
          arith,
          paired_is j y,
          variables_are y,
          pairs_are_members y j,
          y_is_member,
          j_is_wide,
          j_has_y,
          j_is_active,
        )

    together_are_mandatory : (x y : ℕ) → together x y ≡ true → AreMandatory x y
    together_are_mandatory x y x_y_together =
        let found = index_where_test_holds (λ p. has_later by_statement p x y) by_statement
        x_y_together in
        let j = (get_or by_statement found.0 (0, 0)).0 in
        let x_is_variable : x ≡ (get_or by_statement found.0 (0, 0)).1 =
        grind (arith, nat_tests, found.2) in
        let x_of_j = paired_is_active_member j x (ap (has_pair by_statement j) x_is_variable
        ∙ has_pair_at_index by_statement found.0 (0, 0) found.1) in
        let y_of_j = paired_is_active_member j y (grind (arith, found.2)) in
        record {
          x_lt_y = grind (arith, nat_tests, found.2);
          x_is_member = x_of_j.0;
          y_is_member = y_of_j.0;
          both = record {
            statement = j;
            is_disjoint = x_of_j.2;
            has_x = x_of_j.1;
            has_y = y_of_j.1;
            is_active = x_of_j.3;
          };
        }

    later_in_rows_are_mandatory : (x y : ℕ)
        → is_higher_variable_in_rows b rows variables k x y ≡ true → AreMandatory x y
    later_in_rows_are_mandatory x y is_later = record {
      x_lt_y = grind (arith, nat_tests, is_later);
      x_is_member = grind (arith, is_later, variables_are x);
      y_is_member = grind (arith, is_later, variables_are y);
      both = row_is_together db b are_blocks k k_le_length rows rows_are x y
          (grind (arith, is_later));
    }

    mandatory_are_wanted : (x y : ℕ) → AreMandatory x y
        → (wanted (pair x y)
        && (is_member (range_with_len 0 count) x && is_member (range_with_len 0 count) y))
        ≡ true
    mandatory_are_wanted x y are_mandatory =
        let x_lt_y = are_mandatory.x_lt_y in
        let are_disjoint : disjoint_at db k x y ≡ true =
        ap₂ (λ a b. not a && b) (ne_eqb x y (λ x_is_y. absurd (omega (arith, x_is_y, x_lt_y))))
        (together_from_both db b are_blocks k k_le_length x y are_mandatory.both) in
        ap₂ (λ a b. a && b)
        (ap₂ (λ a b. a && b)
        (ap₂ (λ a b. a && b) (ap₂ (λ a b. a && b) (lt-ltb x y x_lt_y) are_mandatory.x_is_member)
        are_mandatory.y_is_member) are_disjoint)
        (ap₂ (λ a b. a && b) (member_is_in_range x are_mandatory.x_is_member)
        (member_is_in_range y are_mandatory.y_is_member))

    left_to_right : (x y : ℕ) → in_one x y ≡ true
        → (wanted (pair x y)
        && (is_member (range_with_len 0 count) x && is_member (range_with_len 0 count) y))
        ≡ true
    left_to_right x y are_in_one =
        elim (or_cases (is_higher_variable_in_rows b rows variables k x y) (together x y)
        are_in_one) [
          | inl is_later ↦ mandatory_are_wanted x y (later_in_rows_are_mandatory x y is_later)
          | inr are_together ↦ mandatory_are_wanted x y (together_are_mandatory x y are_together)
        ]

    right_to_left : (x y : ℕ)
        → (wanted (pair x y)
        && (is_member (range_with_len 0 count) x && is_member (range_with_len 0 count) y))
        ≡ true
        → in_one x y ≡ true
    right_to_left x y are_wanted =
        elim (cases_Bool (is_narrow (formula_at db both.statement))) [
          | inl is_narrow_here ↦ ap (λ c. c || together x y)
              (ap₂ (λ p q. p && q) (variables_are x ∙ x_is_member)
              (ap₂ (λ p q. p && q) (variables_are y ∙ y_is_member)
              (ap₂ (λ p q. p && q) (lt-ltb x y x_lt_y)
              (narrow_is_in_row db b are_blocks k k_le_length rows rows_are x y x_lt_y both
              is_narrow_here))))
          | inr is_wide ↦ wide_are_together is_wide
        ]
      where
        x_lt_y : x < y
        x_lt_y = grind (arith, nat_tests, are_wanted)

        x_is_member : is_member vs x ≡ true
        x_is_member = grind (arith, are_wanted)

        y_is_member : is_member vs y ≡ true
        y_is_member = grind (arith, are_wanted)

        both : HasBoth db b are_blocks k k_le_length x y
        both =
            both_from_together db b are_blocks k k_le_length x y (grind (arith, are_wanted))

        wide_are_together : is_narrow (formula_at db both.statement) ≡ false → in_one x y ≡ true
        wide_are_together is_wide =
            let j_is_wide : is_disjoint_by_width db false both.statement ≡ true =
            grind (arith, both.is_disjoint, is_wide) in
            let j_has_x = wide_member_is_paired both.statement x x_is_member
            j_is_wide both.has_x both.is_active in
            let j_has_y = wide_member_is_paired both.statement y y_is_member
            j_is_wide both.has_y both.is_active in
            let found = index_of_pair by_statement both.statement x j_has_x in
            let found_has_y = ap (λ i. has_pair by_statement i y) found.first_is_x ∙ j_has_y in
            let are_together : together x y ≡ true =
            list_any_at (λ p. has_later by_statement p x y) by_statement found.index (0, 0)
            found.index_lt_length
            (grind (arith, nat_tests, found.second_is_y, found_has_y, x_lt_y)) in
            grind (arith, are_together)

    -- rising pairs with the same members are the mandatory pairs of the frame
    pub pairs_are_mandatory_pairs : (qs : List (ℕ × ℕ)) → AreRising qs
        → ((x y : ℕ) → has_pair qs x y ≡ in_one x y)
        → map (λ p. pair p.0 p.1) qs ≡ mandatory_pairs db k
    pairs_are_mandatory_pairs qs rising has_pair_is_in_one =
        sorted_with_same_members_equal (map (λ p. pair p.0 p.1) qs)
        (filter wanted (pairs_below count))
        (mapped_are_sorted qs rising)
        (filtered_are_sorted wanted (pairs_below count) (all_pairs_are_sorted count))
        (λ x y. has_mapped_pair qs x y ∙ has_pair_is_in_one x y
        ∙ same_tests (in_one x y)
        (wanted (pair x y)
        && (is_member (range_with_len 0 count) x && is_member (range_with_len 0 count) y))
        (left_to_right x y) (right_to_left x y)
        ∙ sym (has_filtered_pair wanted (pairs_below count) x y ∙ ap (λ b. wanted (pair x y) && b)
        (has_pair_in_rows (range_with_len 0 count) (range_with_len 0 count) x y)))
