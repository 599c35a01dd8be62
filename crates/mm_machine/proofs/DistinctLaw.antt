-- Lists with the same variables are disjoint from the same lists.
use Rattle.std.proofs.lemmas.Grind.{common_steps}
use Rattle.std.proofs.lemmas.Bool.Decides.{nat_tests}
use Rattle.std.proofs.Common.{◌≡◌, ℕ, ◌+◌, ◌-◌, ◌<◌, ◌≤◌, Bool, true, false, ◌&&◌, ◌⊎◌, inl, inr}
use Rattle.std.proofs.Common.{List, [], ◌∷◌, ◌++◌, length, take, drop, get_or, All, refl, sym, ap}
use Rattle.std.proofs.Common.{ap₂, ◌∙◌, subst, arith, append_assoc, length-append, length-drop}
use Rattle.std.proofs.Common.{slice_range, map, nat_eq, nat_lt, Result, Ok, Err, OnOk}
use Rattle.std.proofs.Math.Bool.{and-true, and-false, and_assoc}
use Rattle.std.proofs.Math.Seq.{get_or-append_seam}
use Rattle.std.specs.List.{list_all, Contains, dedup}
use Rattle.std.specs.List.Sorted.{IsPermutation, IsStrictlyIncreasing}
use Rattle.std.proofs.lemmas.List.{drop_at, take_more, get_or-drop, get_or_append_left}
use Rattle.std.proofs.lemmas.List.{get_or_default, map-append}
use Rattle.std.proofs.lemmas.List.Sums.{AllPass-from_list_all, list_all-from_AllPass}
use Rattle.std.proofs.lemmas.List.Sorted.{All-permutation, Contains-permutation, IsPermutation-sym}
use Rattle.std.proofs.lemmas.List.Filters.{All-dedup}
use Rattle.std.proofs.lemmas.List.Kept.{Contains-dedup_nat, AllPairs-from_increasing}
use Rattle.std.proofs.lemmas.Bool.{cases_lt}
use Rattle.std.proofs.lemmas.List.Folds.{list_all-append, list_all_more, list_all-map}
use Rattle.std.proofs.lemmas.List.Elements.{All-push, All-append, All-weaker, All-get_or, All-map}
use Rattle.std.proofs.lemmas.List.Elements.{Contains-append_left, Contains-append_right}
use Rattle.mm_spec.specs.Statement.{Statement}
use Rattle.mm_spec.specs.Derivation.{Formula, are_disjoint, is_disjoint_from, are_all_disjoint}
use Rattle.mm_spec.specs.Frame.{is_variable_number, symbol_names}
use Rattle.mm_spec.specs.Citation.{context_at}
use Rattle.mm_spec.proofs.BoolLaw.{same_tests}
use Rattle.mm_nodes.specs.Strings.{no_body, string_of, HaveSameSymbols}
use Rattle.mm_nodes.proofs.StoreLaw.{range_of_front, range_behind}
use Rattle.mm_nodes.specs.declared.heads.Segment.{Segment}
use Rattle.mm_nodes.specs.Store.{segment}
use Rattle.mm_machine.specs.declared.entry.Entry.{Entry}
use Rattle.mm_machine.specs.Entries.{no_entry, AreInRange, entry_formulas}
use Rattle.mm_machine.specs.Distinct.{segment_at, IsSegment, HaveSameVariables}
use Rattle.mm_machine.specs.Distinct.{AppendsIfNew, AppendsVariables, AppendsSegment, HaveVariables}
use Rattle.mm_machine.specs.Distinct.{body_pair, HasBoth, HasSymbols, AsksAbout}
use Rattle.mm_machine.specs.Distinct.{are_bodies_disjoint, are_strings_disjoint}
use Rattle.mm_machine.specs.State.{IsRising}
use Rattle.mm_machine.proofs.StepLaw.{body_in_range}

list_all_equal : (p q : ℕ → Bool) → ((s : ℕ) → p s ≡ q s) → (u : List ℕ)
    → list_all p u ≡ list_all q u
list_all_equal p q h1 u = grind (arith, common_steps)

and_again : (a b : Bool) → ((a && b) && a) ≡ (a && b)
and_again a b = grind (arith, common_steps, and-true)

-- a test of a symbol that a list has says nothing new
list_all_known : (test : ℕ → Bool) (v : List ℕ) (s k : ℕ) → k < length v → get_or v k s ≡ s
    → (list_all test v && test s) ≡ list_all test v
list_all_known test v s k h1 h2 = grind (arith, common_steps, and_again, and_assoc)

-- a symbol at an index from `start` on is in the list without its first `start`; x is what is read
-- at the index
pub contained_by_index : (start index symbol x : ℕ) (list : List ℕ) → start ≤ index → index < length
    list
    → x ≡ get_or list index x → x ≡ symbol → Contains (drop start list) symbol
contained_by_index start index symbol x list start_le_index index_lt_length x_is x_is_symbol =
    let place_is : start + (index - start) ≡ index = omega (arith, start_le_index) in (
      index - start,
      omega (arith, length-drop start list, start_le_index, index_lt_length),
      get_or-drop start list (index - start) symbol ∙ ap (λ n. get_or list n symbol) place_is
          ∙ subst (λ z. get_or list index z ≡ z) x_is_symbol (sym x_is),
    )

-- ---- a symbol after the others

module _ (db : List Statement) (f : Formula) (i s : ℕ) (i_lt_length : i < length f)
    (s_is : s ≡ get_or f i s) (xs ys : List ℕ) (so_far : AppendsVariables db (take i f) xs ys) where
  one_more : (test : ℕ → Bool) → ((s : ℕ) → is_variable_number db s ≡ false → test s ≡ true)
      → list_all test (take (i + 1) f) ≡ (list_all test so_far.variables && test s)
  one_more test constants_pass =
      list_all_more test f i s i_lt_length
      ∙ ap₂ (λ a b. a && b) (so_far.have_same_variables test constants_pass) (ap test (sym s_is))

  stays : ((test : ℕ → Bool) → ((s : ℕ) → is_variable_number db s ≡ false → test s ≡ true)
      → (list_all test so_far.variables && test s) ≡ list_all test so_far.variables)
      → AppendsVariables db (take (i + 1) f) xs ys
  stays says_nothing_new = record {
    variables = so_far.variables;
    list_is = so_far.list_is;
    have_same_variables = λ test constants_pass. one_more test constants_pass
        ∙ says_nothing_new test constants_pass;
    are_symbols = so_far.are_symbols;
  }

  pub next_variable : (start : ℕ) (zs : List ℕ) → start ≡ length xs
      → All (λ s. s < length (symbol_names db)) f → AppendsIfNew db start s ys zs
      → AppendsVariables db (take (i + 1) f) xs zs
  next_variable start zs start_is are_symbols (inl (zs_is, inl is_constant)) =
      subst (AppendsVariables db (take (i + 1) f) xs) (sym zs_is) (stays (λ test constants_pass.
      ap (λ b. list_all test so_far.variables && b) (constants_pass s is_constant) ∙ and-true _))
  next_variable start zs start_is are_symbols (inl (zs_is, inr is_known)) =
      let known : Contains so_far.variables s = subst (λ v. Contains v s) (ap₂ drop start_is
      so_far.list_is ∙ drop_at xs so_far.variables (length xs) refl) is_known in
      subst (AppendsVariables db (take (i + 1) f) xs) (sym zs_is) (stays (λ test constants_pass.
      list_all_known test so_far.variables s known.0 known.1 known.2))
  next_variable start zs start_is are_symbols (inr zs_is) = record {
    variables = so_far.variables ++ s ∷ [];
    list_is = zs_is ∙ ap (λ z. z ++ s ∷ []) so_far.list_is ∙ append_assoc xs so_far.variables
        (s ∷ []);
    have_same_variables = λ test constants_pass. one_more test constants_pass
        ∙ ap (λ b. list_all test so_far.variables && b) (sym (and-true (test s)))
        ∙ sym (list_all-append test so_far.variables (s ∷ []));
    are_symbols = All-push (λ s. s < length (symbol_names db)) so_far.variables s
        so_far.are_symbols (subst (λ z. z < length (symbol_names db)) (sym s_is)
        (are_symbols i s i_lt_length));
  }

-- ---- the symbols of a formula in another order, or more often

pub in_range_if_same : (n : ℕ) (u v : List ℕ) → HaveSameSymbols u v → All (λ s. s < n) u
    → All (λ s. s < n) v
in_range_if_same n u v have_same all_lt =
    let below : ℕ → Bool = λ s. nat_lt s n in
    All-weaker (λ s. below s ≡ true) (λ s. s < n) (λ s is_below. grind (arith, nat_tests)) v
    (AllPass-from_list_all below v (sym (have_same below) ∙ list_all-from_AllPass below u
    (All-weaker (λ s. s < n) (λ s. below s ≡ true) (λ s lt. grind (arith, nat_tests)) u all_lt)))

pub variables_of_same : (db : List Statement) (u v xs ys : List ℕ) → HaveSameSymbols u v
    → AppendsVariables db v xs ys → AppendsVariables db u xs ys
variables_of_same db u v xs ys have_same appends = record {
  variables = appends.variables;
  list_is = appends.list_is;
  have_same_variables = λ test constants_pass. have_same test
      ∙ appends.have_same_variables test constants_pass;
  are_symbols = appends.are_symbols;
}

-- ---- a segment after the others

have_same_at : (db : List Statement) (u u' v v' : List ℕ) → u ≡ u' → v ≡ v'
    → HaveSameVariables db u' v' → HaveSameVariables db u v
have_same_at db u u' v v' u_is v_is have_same = grind (arith, common_steps)

module _ (db : List Statement) (nodes : List (List ℕ)) (bs xs : List ℕ) (ss : List Segment) (b : ℕ)
    (so_far : HaveVariables db nodes bs xs ss) (variables : List ℕ)
    (have_same : HaveSameVariables db (string_of nodes b) variables)
    (are_symbols : All (λ s. s < length (symbol_names db)) variables) where
  abbrev added : Segment
  added = segment (length xs) (length (xs ++ variables))

  new_string : string_of nodes (get_or (bs ++ b ∷ []) (length bs) no_body) ≡ string_of nodes b
  new_string = ap (string_of nodes) (get_or-append_seam bs b [] no_body)

  new_segment : segment_at (xs ++ variables) (ss ++ added ∷ []) (length ss) ≡ variables
  new_segment =
      ap (λ z. slice_range (xs ++ variables) z.start z.end) (get_or-append_seam ss added []
      (segment 0 0)) ∙ range_behind xs variables (length xs) (length (xs ++ variables)) refl refl

  segment_stays : (j : ℕ) → j < length ss
      → segment_at (xs ++ variables) (ss ++ added ∷ []) j ≡ segment_at xs ss j
  segment_stays j j_lt_length =
      ap (λ z. slice_range (xs ++ variables) z.start z.end) (get_or_append_left ss (added ∷ [])
      (segment 0 0) j j_lt_length) ∙ range_of_front xs variables (get_or ss j (segment 0 0)).start
      (get_or ss j (segment 0 0)).end (All-get_or (IsSegment (length xs)) ss j (segment 0 0)
      j_lt_length so_far.are_segments).end_le

  have_same_with_segment : (j : ℕ) → (j < length bs) ⊎ (length bs ≤ j) → j < length (bs ++ b ∷ [])
      → HaveSameVariables db (string_of nodes (get_or (bs ++ b ∷ []) j no_body))
      (segment_at (xs ++ variables) (ss ++ added ∷ []) j)
  have_same_with_segment j (inl j_lt_bs) j_lt_length =
      have_same_at db _ (string_of nodes (get_or bs j no_body)) _ (segment_at xs ss j)
      (ap (string_of nodes) (get_or_append_left bs (b ∷ []) no_body j j_lt_bs)) (segment_stays j
      (omega (arith, so_far.counts_equal, j_lt_bs))) (so_far.have_same_variables j j_lt_bs)
  have_same_with_segment j (inr bs_le_j) j_lt_length =
      let j_is_bs : j ≡ length bs = omega (arith, length-append bs (b ∷ []), bs_le_j) in
      let j_is_ss : j ≡ length ss = omega (arith, j_is_bs, so_far.counts_equal) in
      have_same_at db _ (string_of nodes b) _ variables
      (ap (λ k. string_of nodes (get_or (bs ++ b ∷ []) k no_body)) j_is_bs ∙ new_string)
      (ap (segment_at (xs ++ variables) (ss ++ added ∷ [])) j_is_ss ∙ new_segment) have_same

  have_variables : HaveVariables db nodes (bs ++ b ∷ []) (xs ++ variables) (ss ++ added ∷ [])
  have_variables = record {
    are_symbols = All-append (λ s. s < length (symbol_names db)) xs variables so_far.are_symbols
        are_symbols;
    are_segments =
        All-push (IsSegment (length (xs ++ variables))) ss added
        (All-weaker (IsSegment (length xs)) (IsSegment (length (xs ++ variables)))
        (λ s is_segment. let end_le = is_segment.end_le in record {
          start_le_end = is_segment.start_le_end;
          end_le = omega (arith, end_le, length-append xs variables);
        }) ss so_far.are_segments)
        (record {
          start_le_end = omega (arith, length-append xs variables);
          end_le = omega arith;
        });
    counts_equal = omega (
      arith,
      so_far.counts_equal,
      length-append bs (b ∷ []),
      length-append ss (added ∷ []),
    );
    have_same_variables = λ j. have_same_with_segment j (cases_lt j (length bs));
  }

pub next_segment : (db : List Statement) (nodes : List (List ℕ)) (bs : List ℕ) (i b : ℕ)
    (xs ys : List ℕ) (ss ts : List Segment) → i < length bs → b ≡ get_or bs i no_body
    → HaveVariables db nodes (take i bs) xs ss
    → AppendsSegment db (string_of nodes b) xs ys ss ts
    → HaveVariables db nodes (take (i + 1) bs) ys ts
next_segment db nodes bs i b xs ys ss ts i_lt_length b_is so_far appended =
    subst (λ z. HaveVariables db nodes z ys ts) (sym (take_more bs i no_body i_lt_length
    ∙ ap (λ z. take i bs ++ z ∷ []) (sym b_is)))
    (subst (λ z. HaveVariables db nodes (take i bs ++ b ∷ []) ys z) (sym appended.segments_are)
    (subst (λ z. HaveVariables db nodes (take i bs ++ b ∷ []) z
    (ss ++ segment (length xs) (length z) ∷ [])) (sym appended.appends_variables.list_is)
    (have_variables db nodes (take i bs) xs ss b so_far appended.appends_variables.variables
    appended.appends_variables.have_same_variables appended.appends_variables.are_symbols)))

-- the variables of a listed body
module _ (db : List Statement) (nodes : List (List ℕ)) (listed list : List ℕ) (ss : List Segment)
    (have_variables : HaveVariables db nodes listed list ss) (j b : ℕ) (j_lt : j < length listed)
    (b_is : get_or listed j 0 ≡ b) where
  pub listed_have_same : HaveSameVariables db (string_of nodes b) (segment_at list ss j)
  listed_have_same =
      subst (λ z. HaveSameVariables db (string_of nodes z) (segment_at list ss j))
      (get_or_default listed j no_body 0 j_lt ∙ b_is) (have_variables.have_same_variables j j_lt)

  pub listed_in_range : IsSegment (length list) (get_or ss j (segment 0 0))
  listed_in_range =
      All-get_or (IsSegment (length list)) ss j (segment 0 0)
      (omega (arith, have_variables.counts_equal, j_lt)) have_variables.are_segments

-- ---- what is asked about

pub next_asked : (es : List Entry) (ps : List (ℕ × ℕ)) (i : ℕ) (e f : Entry) → i < length ps
    → e ≡ get_or es (get_or ps i (0, 0)).0 no_entry → f ≡ get_or es (get_or ps i (0, 0)).1 no_entry
    → map (body_pair es) (take i ps) ++ (e.body, f.body) ∷ []
    ≡ map (body_pair es) (take (i + 1) ps)
next_asked es ps i e f i_lt e_is f_is =
    ap₂ (λ (x y : Entry). map (body_pair es) (take i ps) ++ (x.body, y.body) ∷ []) e_is f_is
    ∙ sym (map-append (body_pair es) (take i ps) (get_or ps i (0, 0) ∷ []))
    ∙ ap (map (body_pair es)) (sym (take_more ps i (0, 0) i_lt))

-- a list of bodies that pairs have, with both bodies of one more
pub next_has_both : (bs : List ℕ) (ps : List (ℕ × ℕ)) (i b c : ℕ) → i < length ps
    → b ≡ (get_or ps i (0, 0)).0 → c ≡ (get_or ps i (0, 0)).1 → All (HasBoth bs) (take i ps)
    → All (HasBoth ((bs ++ b ∷ []) ++ c ∷ [])) (take (i + 1) ps)
next_has_both bs ps i b c i_lt b_is c_is so_far =
    let more = (bs ++ b ∷ []) ++ c ∷ [] in
    let has_b : Contains more b = Contains-append_left (bs ++ b ∷ []) (c ∷ []) b
    (Contains-append_right bs (b ∷ []) b (0, omega arith, refl)) in
    let has_c : Contains more c = Contains-append_right (bs ++ b ∷ []) (c ∷ []) c
    (0, omega arith, refl) in
    subst (All (HasBoth more)) (sym (take_more ps i (0, 0) i_lt))
    (All-push (HasBoth more) (take i ps) (get_or ps i (0, 0)) (All-weaker (HasBoth bs)
    (HasBoth more) (λ p has. (stays p.0 has.0, stays p.1 has.1)) (take i ps) so_far)
    (subst (Contains more) b_is has_b, subst (Contains more) c_is has_c))
  where
    stays : (x : ℕ) → Contains bs x → Contains ((bs ++ b ∷ []) ++ c ∷ []) x
    stays x has = Contains-append_left (bs ++ b ∷ []) (c ∷ []) x
        (Contains-append_left bs (b ∷ []) x has)

-- sorted, and without duplicates
module _ (xs ys zs : List ℕ) (is_permutation : IsPermutation xs ys) (zs_are : zs ≡ dedup nat_eq ys)
  where
    pub sorted_have_both : (ps : List (ℕ × ℕ)) → All (HasBoth xs) ps → All (HasBoth zs) ps
    sorted_have_both ps have_both =
        All-weaker (HasBoth xs) (HasBoth zs) (λ p has. (stays p.0 has.0, stays p.1 has.1)) ps
        have_both
      where
        stays : (x : ℕ) → Contains xs x → Contains zs x
        stays x has = subst (λ z. Contains z x) (sym zs_are) (Contains-dedup_nat ys x
            (Contains-permutation xs ys x is_permutation has))

    pub sorted_all : (P : ℕ → Type 0) → All P xs → All P zs
    sorted_all P all = subst (All P) (sym zs_are) (All-dedup nat_eq P ys (All-permutation P xs ys
        is_permutation all))

pub rising_if_strictly : (xs : List ℕ) → IsStrictlyIncreasing xs → IsRising xs
rising_if_strictly xs rise i j i_le_j j_lt_length =
    grind (arith, nat_tests, cases_lt, AllPairs-from_increasing)

-- the bodies that are asked about have symbols of the database
pub asked_have_symbols : (db : List Statement) (nodes : List (List ℕ)) (es : List Entry)
    (ps asked : List (ℕ × ℕ)) → AreInRange (length (symbol_names db)) (entry_formulas nodes es)
    → All (λ (p : ℕ × ℕ). (p.0 < length es) × (p.1 < length es)) ps
    → IsPermutation (map (body_pair es) ps) asked
    → All (λ (p : ℕ × ℕ). HasSymbols db nodes p.0 × HasSymbols db nodes p.1) asked
asked_have_symbols db nodes es ps asked formulas_in_range pairs_in_range asks_all =
    All-permutation Both (map (body_pair es) ps) asked asks_all (All-map Both (body_pair es) ps
    (All-weaker (λ (p : ℕ × ℕ). (p.0 < length es) × (p.1 < length es))
    (λ p. Both (body_pair es p))
    (λ p lt. (
      body_in_range w nodes es p.0 formulas_in_range lt.0,
      body_in_range w nodes es p.1 formulas_in_range lt.1,
    )) ps pairs_in_range))
  where
    w : ℕ
    w = length (symbol_names db)

    Both : ℕ × ℕ → Type 0
    Both p = HasSymbols db nodes p.0 × HasSymbols db nodes p.1

pub asks_if_ok : {T E : Type 0} (db : List Statement) (nodes : List (List ℕ)) (es : List Entry)
    (ps asked : List (ℕ × ℕ)) (listed list : List ℕ) (ss : List Segment) (r : Result T E)
    → IsPermutation (map (body_pair es) ps) asked → All (HasBoth listed) asked → IsRising listed
    → OnOk r (HaveVariables db nodes listed list ss)
    → OnOk r (AsksAbout db nodes es ps asked listed list ss)
asks_if_ok db nodes es ps asked listed list ss (Ok x) asks_all are_listed listed_rise
    have_variables = record {
      asks_all = asks_all;
      are_listed = are_listed;
      listed_rise = listed_rise;
      have_variables = have_variables;
    }
asks_if_ok db nodes es ps asked listed list ss (Err e) asks_all are_listed listed_rise
    have_variables = tt

-- ---- the test of pairs

pub constant_is_disjoint_from : (db : List Statement) (t s : ℕ) → is_variable_number db s ≡ false
    → (v : List ℕ) → is_disjoint_from (context_at db t) s v ≡ true
constant_is_disjoint_from db t s is_constant [] = refl
constant_is_disjoint_from db t s is_constant (x ∷ v) =
    grind (arith, common_steps, (constant_is_disjoint_from db t s is_constant v))

pub is_disjoint_from_constant : (db : List Statement) (t s r : ℕ) → is_variable_number db r ≡ false
    → are_disjoint (context_at db t) s r ≡ true
is_disjoint_from_constant db t s r is_constant = grind (arith, common_steps, and-false)

pub disjoint_by_variables : (db : List Statement) (t : ℕ) (u u' v v' : List ℕ)
    → HaveSameVariables db u u' → HaveSameVariables db v v'
    → are_all_disjoint (context_at db t) u v ≡ are_all_disjoint (context_at db t) u' v'
disjoint_by_variables db t u u' v v' first_same second_same =
    grind (arith, nat_tests, constant_is_disjoint_from, list_all_equal, is_disjoint_from_constant)

list_all_permuted : {X : Type 0} (p : X → Bool) (xs ys : List X) → IsPermutation xs ys
    → list_all p ys ≡ list_all p xs
list_all_permuted p xs ys is_permutation =
    same_tests _ _
    (λ ys_pass. list_all-from_AllPass p xs (All-permutation (λ x. p x ≡ true) ys xs
    (IsPermutation-sym xs ys is_permutation) (AllPass-from_list_all p ys ys_pass)))
    (λ xs_pass. list_all-from_AllPass p ys (All-permutation (λ x. p x ≡ true) xs ys is_permutation
    (AllPass-from_list_all p xs xs_pass)))

pub asked_tell : (db : List Statement) (t : ℕ) (nodes : List (List ℕ)) (es : List Entry)
    (ps asked : List (ℕ × ℕ)) → IsPermutation (map (body_pair es) ps) asked
    → list_all (are_strings_disjoint db t nodes) asked
    ≡ list_all (are_bodies_disjoint db t nodes es) ps
asked_tell db t nodes es ps asked asks_all =
    list_all_permuted (are_strings_disjoint db t nodes) (map (body_pair es) ps) asked asks_all
    ∙ list_all-map (are_strings_disjoint db t nodes) (body_pair es) ps

-- a pair that is the one before it passes the test that those before it pass
pub same_as_before : (q : ℕ × ℕ → Bool) (ps : List (ℕ × ℕ)) (i j : ℕ) → j + 1 ≡ i → i < length ps
    → get_or ps j (0, 0) ≡ get_or ps i (0, 0) → list_all q (take i ps) ≡ true
    → list_all q (take (i + 1) ps) ≡ true
same_as_before q ps i j j_is i_lt same so_far =
    grind (arith, common_steps, list_all_more)
