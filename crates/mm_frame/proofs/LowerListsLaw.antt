-- How the lists of the lower symbols are made, pair by pair.
use Rattle.std.proofs.Common.{◌≡◌, ℕ, ◌+◌, ◌<◌, ◌≤◌, Bool, true, false, ◌&&◌, ◌||◌, List, [], ◌∷◌}
use Rattle.std.proofs.Common.{◌++◌, length, get_or, take, set, nat_eq, nat_lt, refl, sym, ap, ap₂}
use Rattle.std.proofs.Common.{◌∙◌, subst, arith, inl, inr, Vec, All}
use Rattle.std.proofs.lemmas.Bool.{cases_lt, cases_eq, lt-ltb, le-ltb}
use Rattle.std.proofs.lemmas.Bool.Decides.{nat_tests}
use Rattle.std.proofs.lemmas.List.{get_or_push, get_or_append_left, length_push, length-set}
use Rattle.std.proofs.lemmas.List.{get_or-set_same, get_or-set_other}
use Rattle.std.proofs.lemmas.List.Folds.{list_any-append}
use Rattle.std.proofs.Math.Bool.{or-false}
use Rattle.mm_spec.specs.Statement.{Statement}
use Rattle.mm_spec.specs.Derivation.{is_member}
use Rattle.mm_spec.specs.Frame.{formula_at}
use Rattle.mm_spec.proofs.ListLaw.{element_is_member}
use Rattle.mm_database.specs.DisjointIndex.{has_narrow_pair, has_symbol_by_width}
use Rattle.mm_database.specs.DisjointIndex.{is_disjoint_by_width}
use Rattle.mm_frame.specs.LowerLists.{IsListFor, AreLowerLists, AddsToLists}
use Rattle.mm_frame.specs.Rows.{is_pair}
use Rattle.mm_frame.proofs.ChainsLaw.{member_of_one_more, has_symbol_lt_length}

-- ---- one list

module _ (passes : ℕ → ℕ → Bool) (x k : ℕ) (list : List (ℕ × ℕ)) (is_list : IsListFor passes k list)
  where
    abbrev pushed : List (ℕ × ℕ)
    pushed = list ++ (x, k) ∷ []

    at_end : (p : ℕ) → length list ≤ p → p < length pushed → get_or pushed p (0, 0) ≡ (x, k)
    at_end p length_le p_lt =
        let pushed_length = length_push list (x, k) in
        get_or_push list (x, k) (0, 0) p (omega (arith, length_le, p_lt, pushed_length))

    is_at_most_last : (p : ℕ) → p < length pushed → (get_or pushed p (0, 0)).1 ≤ k
    is_at_most_last p p_lt = elim (cases_lt p (length list)) [
      | inl p_lt_length ↦ rw (get_or_append_left list ((x, k) ∷ []) (0, 0) p p_lt_length)
          (is_list.statements_le p p_lt_length)
      | inr length_le ↦ rw (at_end p length_le p_lt) (omega arith)
    ]

    -- a list with one pair more at its end
    list_with_pair : (longer : List (ℕ × ℕ)) → longer ≡ pushed
        → IsListFor (λ z j. passes z j || is_pair (x, k) z j) k longer
    list_with_pair longer longer_is = rw longer_is (record {
      members_are = λ z j. list_any-append (λ q. nat_eq z q.0 && nat_eq j q.1) list ((x, k) ∷ [])
          ∙ ap₂ (λ a c. a || c) (is_list.members_are z j) (or-false (is_pair (x, k) z j));
      statements_rise = λ p q p_le_q q_lt. elim (cases_lt q (length list)) [
        | inl q_lt_length ↦
            rw (get_or_append_left list ((x, k) ∷ []) (0, 0) p (omega (arith, p_le_q, q_lt_length)))
            (rw (get_or_append_left list ((x, k) ∷ []) (0, 0) q q_lt_length)
            (is_list.statements_rise p q p_le_q q_lt_length))
        | inr length_le ↦
            let last_is = ap (λ (r : ℕ × ℕ). r.1) (at_end q length_le q_lt) in
            let p_le = is_at_most_last p (omega (arith, p_le_q, q_lt)) in
            omega (arith, last_is, p_le)
      ];
      statements_le = is_at_most_last;
    })

-- a list of equal tests, and of a later last statement
list_of_equal_tests : (t u : ℕ → ℕ → Bool) (k m : ℕ) (list : List (ℕ × ℕ)) → k ≤ m
    → ((x j : ℕ) → t x j ≡ u x j) → IsListFor t k list → IsListFor u m list
list_of_equal_tests t u k m list k_le_m tests_equal is_list = record {
  members_are = λ x j. is_list.members_are x j ∙ tests_equal x j;
  statements_rise = is_list.statements_rise;
  statements_le = λ p p_lt. let p_le = is_list.statements_le p p_lt in omega (arith, p_le, k_le_m);
}

-- a list without pairs is that of a test that nothing passes
empty_list : (passes : ℕ → ℕ → Bool) (k : ℕ) (list : List (ℕ × ℕ)) → list ≡ []
    → ((x j : ℕ) → passes x j ≡ false) → IsListFor passes k list
empty_list passes k list list_is none_passes = rw list_is (record {
  members_are = λ x j. sym (none_passes x j);
  statements_rise = λ p q p_le_q q_lt. absurd (omega (arith, q_lt));
  statements_le = λ p p_lt. absurd (omega (arith, p_lt));
})

-- ---- all lists

module _ {A : Type 0} where
  pub lists_of_equal_tests : (t u : ℕ → ℕ → ℕ → Bool) (k m : ℕ) (lists : List (Vec (ℕ × ℕ) A))
      → k ≤ m → ((y x j : ℕ) → t y x j ≡ u y x j) → AreLowerLists t k lists
      → AreLowerLists u m lists
  lists_of_equal_tests t u k m lists k_le_m tests_equal are_lists y d y_lt =
      list_of_equal_tests (t y) (u y) k m _ k_le_m (tests_equal y) (are_lists y d y_lt)

  -- the list of a symbol, as it is read
  pub list_at : (passes : ℕ → ℕ → ℕ → Bool) (last y : ℕ) (lists : List (Vec (ℕ × ℕ) A))
      (v : Vec (ℕ × ℕ) A) (list : List (ℕ × ℕ)) → AreLowerLists passes last lists
      → y < length lists → v ≡ get_or lists y v → list ≡ v.items
      → IsListFor (passes y) last list
  list_at passes last y lists v list are_lists y_lt v_is list_is =
      rw (list_is ∙ ap (λ v. v.items) v_is) (are_lists y v y_lt)

  -- the list of symbol s has one pair more
  lists_with_pair : (passes : ℕ → ℕ → ℕ → Bool) (k x s : ℕ) (lists : List (Vec (ℕ × ℕ) A))
      (list e : Vec (ℕ × ℕ) A) → s < length lists
      → list.items ≡ (get_or lists s e).items ++ (x, k) ∷ [] → AreLowerLists passes k lists
      → AreLowerLists (λ y z j. passes y z j || (nat_eq y s && is_pair (x, k) z j)) k
      (set lists s list)
  lists_with_pair passes k x s lists list e s_lt list_is are_lists y d y_lt =
      elim (cases_eq y s) [
        | inl y_is ↦ rw (y_is, get_or-set_same lists s list d s_lt)
            (list_of_equal_tests (λ z j. passes s z j || is_pair (x, k) z j)
            (λ z j. passes s z j || (nat_eq s s && is_pair (x, k) z j)) k k list.items (omega arith)
            (λ z j. grind (arith, nat_tests))
            (list_with_pair (passes s) x k (get_or lists s e).items (are_lists s e s_lt) list.items
            list_is))
        | inr y_isnt ↦ rw (get_or-set_other lists s y list d y_isnt)
            (list_of_equal_tests (passes y)
            (λ z j. passes y z j || (nat_eq y s && is_pair (x, k) z j)) k k _ (omega arith)
            (λ z j. grind (arith, nat_tests, y_isnt))
            (are_lists y d (subst (λ n. y < n) (length-set lists s list) y_lt)))
      ]

  -- nothing is added where nothing passes
  pub adds_nothing : (test : ℕ → ℕ → Bool) (k : ℕ) (lists : List (Vec (ℕ × ℕ) A))
      → ((y x : ℕ) → test y x ≡ false) → AddsToLists test k lists lists
  adds_nothing test k lists none_passes passes are_lists =
      lists_of_equal_tests passes _ k k lists (omega arith)
      (λ y x j. grind (arith, none_passes y x)) are_lists

  pub adds_of_equal_tests : (t u : ℕ → ℕ → Bool) (k : ℕ) (old new : List (Vec (ℕ × ℕ) A))
      → ((y x : ℕ) → t y x ≡ u y x) → AddsToLists t k old new → AddsToLists u k old new
  adds_of_equal_tests t u k old new tests_equal adds passes are_lists =
      lists_of_equal_tests _ _ k k new (omega arith)
      (λ y x j. ap (λ b. passes y x j || (b && nat_eq j k)) (tests_equal y x))
      (adds passes are_lists)

  -- what is added by two tests, one after the other
  pub adds_both : (t u both : ℕ → ℕ → Bool) (k : ℕ) (first second third : List (Vec (ℕ × ℕ) A))
      → ((y x : ℕ) → (t y x || u y x) ≡ both y x) → AddsToLists t k first second
      → AddsToLists u k second third → AddsToLists both k first third
  adds_both t u both k first second third tests_are adds_first adds_second passes are_lists =
      lists_of_equal_tests _ _ k k third (omega arith)
      (λ y x j. grind (arith, tests_are y x))
      (adds_second _ (adds_first passes are_lists))

  -- one pair in the list of a symbol
  pub adds_pair : (k x n s : ℕ) (lists : List (Vec (ℕ × ℕ) A)) (list e : Vec (ℕ × ℕ) A)
      → s < length lists → n ≡ x → list.items ≡ (get_or lists s e).items ++ (n, k) ∷ []
      → AddsToLists (λ y z. nat_eq z x && nat_eq y s) k lists (set lists s list)
  adds_pair k x n s lists list e s_lt n_is list_is passes are_lists =
      lists_of_equal_tests _ _ k k (set lists s list) (omega arith)
      (λ y z j. grind (arith, nat_tests))
      (lists_with_pair passes k x s lists list e s_lt
      (subst (λ m. list.items ≡ (get_or lists s e).items ++ (m, k) ∷ []) n_is list_is) are_lists)

-- ---- the symbols of a statement

-- where all members are below a bound, all elements are
pub all_lt_of_members : (xs : List ℕ) (n : ℕ) → ((x : ℕ) → is_member xs x ≡ true → x < n)
    → All (λ s. s < n) xs
all_lt_of_members xs n members_lt i d i_lt =
    members_lt (get_or xs i d) (element_is_member xs i d i_lt)

module _ (low k : ℕ) (xs : List ℕ) (i d s : ℕ) (i_lt_length : i < length xs)
    (s_is : s ≡ get_or xs i d)
  where
    abbrev is_higher : ℕ → ℕ → ℕ → Bool
    is_higher n y x = nat_eq x low && (nat_lt x y && is_member (take n xs) y)

    member_more : (x : ℕ) → is_member (take (i + 1) xs) x ≡ (is_member (take i xs) x || nat_eq x s)
    member_more =
        member_of_one_more (λ x j. true) (λ x. true) xs i d s k i_lt_length s_is

    pub higher_with_symbol : low < s → (y x : ℕ)
        → (is_higher i y x || (nat_eq x low && nat_eq y s)) ≡ is_higher (i + 1) y x
    higher_with_symbol low_lt y x = grind (arith, nat_tests, lt-ltb low s low_lt, member_more y)

    pub higher_without_symbol : s ≤ low → (y x : ℕ) → is_higher i y x ≡ is_higher (i + 1) y x
    higher_without_symbol s_le y x = grind (arith, nat_tests, le-ltb low s s_le, member_more y)

    pub lower_with_symbol : (all : List ℕ) (y x : ℕ)
        → ((is_member (take i xs) x && (nat_lt x y && is_member all y))
        || (nat_eq x s && (nat_lt x y && is_member all y)))
        ≡ (is_member (take (i + 1) xs) x && (nat_lt x y && is_member all y))
    lower_with_symbol all y x = grind (arith, member_more x)

-- ---- the statements

module _ (db : List Statement) (s : ℕ) where
  abbrev is_before : ℕ → ℕ → ℕ → ℕ → Bool
  is_before n y x j = nat_lt j n && has_narrow_pair db x y j

  pub pairs_with_statement : (xs : List ℕ) → xs ≡ formula_at db s
      → is_disjoint_by_width db true s ≡ true → (y x j : ℕ)
      → (is_before s y x j || ((is_member xs x && (nat_lt x y && is_member xs y)) && nat_eq j s))
      ≡ is_before (s + 1) y x j
  pairs_with_statement xs xs_are is_disjoint y x j = elim (cases_eq j s) [
    | inl j_is ↦ rw (j_is, xs_are) (grind (arith, nat_tests, is_disjoint))
    | inr j_isnt ↦ grind (arith, nat_tests, j_isnt)
  ]

  pub pairs_without_statement : is_disjoint_by_width db true s ≡ false → (y x j : ℕ)
      → is_before s y x j ≡ is_before (s + 1) y x j
  pairs_without_statement is_other y x j = elim (cases_eq j s) [
    | inl j_is ↦ rw j_is (grind (arith, nat_tests, is_other))
    | inr j_isnt ↦ grind (arith, nat_tests, j_isnt)
  ]

-- a pair has its statement among all statements
pub all_pairs_are_before : (db : List Statement) (y x j : ℕ)
    → is_before db 0 (length db) y x j ≡ has_narrow_pair db x y j
all_pairs_are_before db y x j = elim (cases_lt j (length db)) [
  | inl j_lt ↦ grind (arith, lt-ltb j (length db) j_lt)
  | inr length_le ↦ by_pair (has_symbol_by_width db true y j) refl
]
  where
    by_pair : (c : Bool) → has_symbol_by_width db true y j ≡ c
        → is_before db 0 (length db) y x j ≡ has_narrow_pair db x y j
    by_pair true has_symbol =
        let j_lt = has_symbol_lt_length db true y j has_symbol in
        grind (arith, lt-ltb j (length db) j_lt)
    by_pair false has_none = grind (arith, has_none)

-- lists without pairs
pub empty_lists_before : {A : Type 0} (db : List Statement) (lists : List (Vec (ℕ × ℕ) A))
    → ((x : ℕ) (d : Vec (ℕ × ℕ) A) → x < length lists → (get_or lists x d).items ≡ [])
    → AreLowerLists (λ y x j. is_before db 0 0 y x j) 0 lists
empty_lists_before db lists are_empty y d y_lt =
    empty_list _ 0 _ (are_empty y d y_lt) (λ x j. grind (arith, nat_tests))
