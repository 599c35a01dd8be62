-- The chains of `$d` statements (not of citations), link by link, and the pairs that are read from
-- them.
use Rattle.std.proofs.Common.{rules, ◌≡◌, ◌≢◌, ℕ, ◌+◌, ◌-◌, ◌<◌, ◌≤◌, Bool, true, false, ◌&&◌, ◌||◌}
use Rattle.std.proofs.Common.{List, [], ◌∷◌, ◌++◌, length, get_or, set, map, nat_eq, nat_lt, nat_le}
use Rattle.std.proofs.Common.{refl, sym, ap, ap₂, ◌∙◌, subst, arith, eq-eqb, eqb-true, true≢false}
use Rattle.std.proofs.Common.{length-append, ◌⊎◌, inl, inr, All, take}
use Rattle.std.proofs.lemmas.Grind.{common_steps}
use Rattle.std.proofs.lemmas.Bool.{cases_eq, and_parts, or_cases, or_right}
use Rattle.std.proofs.lemmas.List.{get_or_push, get_or-set_same}
use Rattle.std.proofs.lemmas.List.{get_or-set_other, length-set, append-nil, append_assoc}
use Rattle.std.proofs.lemmas.Bool.Decides.{nat_tests}
use Rattle.std.proofs.lemmas.List.Folds.{list_any_more, list_any-append}
use Rattle.std.proofs.lemmas.List.Elements.{All-head, All-tail}
use Rattle.std.proofs.Math.Bool.{and-false, or-false}
use Rattle.std.specs.List.{list_any}
use Rattle.mm_spec.specs.Statement.{Statement}
use Rattle.mm_spec.specs.Scope.{statement_at}
use Rattle.mm_spec.specs.Derivation.{is_member}
use Rattle.mm_spec.specs.Frame.{symbol_names, is_disjoint_statement, formula_at}
use Rattle.mm_outline.proofs.StatementsLaw.{passing_lt_length}
use Rattle.mm_spec.specs.Rising.{IsRisingFrom}
use Rattle.mm_frame.specs.Chains.{IsLinkChain, AreLinked, HasChain, AreChains}
use Rattle.mm_database.specs.DisjointIndex.{has_symbol_by_width, is_disjoint_by_width}
use Rattle.mm_database.specs.Pairs.{has_pair, IsBefore, AreRising}
use Rattle.mm_database.specs.ParsedStatements.{IsSound}

-- ---- one chain

-- a link more at the end of the list changes no chain
chain_with_more_links : (links : List (ℕ × ℕ)) (l : ℕ × ℕ) (n : ℕ) (js : List ℕ)
    → IsLinkChain links n js
    → IsLinkChain (links ++ l ∷ []) n js
chain_with_more_links links l n [] is_chain = is_chain
chain_with_more_links links l n (j ∷ js) is_chain =
    grind (
      arith,
      common_steps,
      (chain_with_more_links links l (get_or links (n - 1) (0, 0)).1 js
          is_chain.3),
    )

-- the new link stands in front
chain_with_link_in_front : (links : List (ℕ × ℕ)) (k n : ℕ) (js : List ℕ) → IsLinkChain links n js
    → IsLinkChain (links ++ (k, n) ∷ []) (length links + 1) (k ∷ js)
chain_with_link_in_front links k n js is_chain =
    grind (arith, common_steps, length-append, get_or_push, chain_with_more_links)

-- a chain that doesn't begin with k, and has nothing before k, has only later statements
rising_from_next : (links : List (ℕ × ℕ)) (n k : ℕ) (js : List ℕ) → IsLinkChain links n js
    → IsRisingFrom k js
    → (0 < n → (get_or links (n - 1) (0, 0)).0 ≡ k → ⊥) → IsRisingFrom (k + 1) js
rising_from_next links n k [] is_chain is_rising first_ne_k = tt
rising_from_next links n k (j ∷ js) is_chain is_rising first_ne_k = grind (arith, common_steps)

-- what rises from a bound also rises from a lower one
rising_from_lower : (a b : ℕ) (js : List ℕ) → a ≤ b → IsRisingFrom b js → IsRisingFrom a js
rising_from_lower a b [] a_le_b is_rising = tt
rising_from_lower a b (j ∷ js) a_le_b (b_le_j, rising_later) = (omega arith, rising_later)

-- a chain that begins with k has it
first_is_member : (links : List (ℕ × ℕ)) (n k : ℕ) (js : List ℕ) → IsLinkChain links n js → 0 < n
    → (get_or links (n - 1) (0, 0)).0 ≡ k → is_member js k ≡ true
first_is_member links n k [] is_chain n_gt_0 first_is_k = absurd (omega (arith, is_chain, n_gt_0))
first_is_member links n k (j ∷ js) is_chain n_gt_0 first_is_k = grind (arith, common_steps, eq-eqb)

-- a chain stays such for a test with the same values and a lower least statement
chain_for_equal_test : (passes equal_test : ℕ → Bool) (a b : ℕ) (links : List (ℕ × ℕ)) (n : ℕ)
    → a ≤ b
    → ((j : ℕ) → passes j ≡ equal_test j) → HasChain passes b links n
    → HasChain equal_test a links n
chain_for_equal_test passes equal_test a b links n a_le_b tests_equal has_chain =
    grind (arith, common_steps, rising_from_lower)

-- ---- a statement in front of a chain

module _ (passes : ℕ → ℕ → Bool) (heads : List ℕ) (links : List (ℕ × ℕ)) (s x k : ℕ) (s_is_x : s
    ≡ x)
    (x_lt_length : x < length heads)
  where
    -- where it is there already, nothing changes
    pub chains_with_known_statement : 0 < get_or heads x 0
        → (get_or links (get_or heads x 0 - 1) (0, 0)).0 ≡ k
        → AreChains passes k heads links
        → AreChains (λ y j. passes y j || (nat_eq y s && nat_eq j k)) k heads links
    chains_with_known_statement head_gt_0 first_is_k are_chains y y_lt_length =
        chain_for_equal_test (passes y) (λ j. passes y j || (nat_eq y s && nat_eq j k)) k k links
        (get_or heads y 0) (omega arith) (λ j. grind (arith, nat_tests, x_has_k)) (are_chains y
        y_lt_length)
      where
        x_has_k : passes x k ≡ true
        x_has_k =
            sym ((are_chains x x_lt_length).members_are k)
            ∙ first_is_member links (get_or heads x 0) k (are_chains x x_lt_length).statements
            (are_chains x x_lt_length).chain head_gt_0 first_is_k

    -- the statement stands in front of the chain of x, and the other chains stay
    pub chains_with_statement
        : (0 < get_or heads x 0 → (get_or links (get_or heads x 0 - 1) (0, 0)).0 ≡ k → ⊥)
        → AreChains passes k heads links
        → AreChains (λ y j. passes y j || (nat_eq y s && nat_eq j k)) k
        (set heads x (length links + 1)) (links ++ (k, get_or heads x 0) ∷ [])
    chains_with_statement first_ne_k are_chains y y_lt_set_length = y_has_chain (cases_eq y x)
      where
        chain_of_x : HasChain (passes x) k links (get_or heads x 0)
        chain_of_x = are_chains x x_lt_length

        y_has_chain : (y ≡ x) ⊎ (y ≢ x)
            → HasChain (λ j. passes y j || (nat_eq y s && nat_eq j k)) k
            (links ++ (k, get_or heads x 0) ∷ []) (get_or (set heads x (length links + 1)) y 0)
        y_has_chain (inl y_is_x) = record {
          statements = k ∷ chain_of_x.statements;
          chain =
              subst
              (λ n. IsLinkChain (links ++ (k, get_or heads x 0) ∷ []) n
              (k ∷ chain_of_x.statements))
              (sym (ap (λ z. get_or (set heads x (length links + 1)) z 0) y_is_x
              ∙ get_or-set_same heads x (length links + 1) 0 x_lt_length))
              (chain_with_link_in_front links k (get_or heads x 0) chain_of_x.statements
              chain_of_x.chain);
          rising = (
            omega arith,
            rising_from_next links (get_or heads x 0) k chain_of_x.statements chain_of_x.chain
                chain_of_x.rising
                first_ne_k,
          );
          members_are = λ j. grind (arith, nat_tests, chain_of_x.members_are j);
        }
        y_has_chain (inr y_ne_x) =
            let set_length = length-set heads x (length links + 1) in
            let has_chain : HasChain (passes y) k links (get_or heads y 0) =
            are_chains y (omega (arith, y_lt_set_length, set_length)) in
            record {
              statements = has_chain.statements;
              chain =
                  subst
                  (λ n. IsLinkChain (links ++ (k, get_or heads x 0) ∷ []) n
                  has_chain.statements)
                  (sym (get_or-set_other heads x y (length links + 1) 0 y_ne_x))
                  (chain_with_more_links links (k, get_or heads x 0) (get_or heads y 0)
                  has_chain.statements
                  has_chain.chain);
              rising = has_chain.rising;
              members_are = λ j. grind (arith, nat_tests, has_chain.members_are j);
            }

-- chains stay such for a test with the same values and a lower least statement
pub chains_for_equal_tests : (passes equal_test : ℕ → ℕ
    → Bool) (a b : ℕ) (heads : List ℕ) (links : List (ℕ × ℕ))
    → a ≤ b → ((x j : ℕ) → passes x j ≡ equal_test x j) → AreChains passes b heads links
    → AreChains equal_test a heads links
chains_for_equal_tests passes equal_test a b heads links a_le_b tests_equal are_chains x
    x_lt_length =
    grind (arith, common_steps, chain_for_equal_test)

module _ (passes : ℕ → ℕ → Bool) (test : ℕ → Bool) (xs : List ℕ) (i d s k : ℕ)
    (i_lt_length_xs : i < length xs) (s_is_element_i : s ≡ get_or xs i d)
  where
    pub member_of_one_more : (x : ℕ)
        → is_member (take (i + 1) xs) x ≡ (is_member (take i xs) x || nat_eq x s)
    member_of_one_more x =
        grind (arith, nat_tests, s_is_element_i, list_any_more (nat_eq x) xs i d i_lt_length_xs)

    -- the chains have the statement for those of the first i + 1 symbols that pass the test
    pub test_with_next_symbol : test s ≡ true → (x j : ℕ)
        → ((passes x j || ((test x && is_member (take i xs) x) && nat_eq j k))
        || (nat_eq x s && nat_eq j k))
        ≡ (passes x j || ((test x && is_member (take (i + 1) xs) x) && nat_eq j k))
    test_with_next_symbol s_passes x j = grind (arith, nat_tests, s_passes, member_of_one_more x)

-- ---- the statements, from the last to the first

-- a narrow or wide `$d` is a `$d`
width_is_disjoint : (db : List Statement) (narrow : Bool) (j : ℕ)
    → is_disjoint_by_width db narrow j ≡ true
    → list_any is_disjoint_statement (statement_at db j) ≡ true
width_is_disjoint db narrow j is_disjoint = grind (arith, common_steps, and_parts)

-- where all that pass are below n, no symbol has a chain from n on
pub no_chains_at_start : (n : ℕ) (passes : ℕ → ℕ → Bool) (heads : List ℕ)
    → ((x j : ℕ) → passes x j ≡ true → j < n)
    → ((x : ℕ) → x < length heads → get_or heads x 0 ≡ 0)
    → AreChains (λ x j. nat_le n j && passes x j) n heads []
no_chains_at_start n passes heads passing_lt_n heads_are_0 x x_lt_length = grind (arith, nat_tests)

-- a `$d` that has a symbol is one of the statements
pub has_symbol_lt_length : (db : List Statement) (narrow : Bool) (x j : ℕ)
    → has_symbol_by_width db narrow x j ≡ true → j < length db
has_symbol_lt_length db narrow x j j_has_x =
    grind (arith, common_steps, passing_lt_length, width_is_disjoint, and_parts)

-- without links each symbol is linked to none
pub no_links_are_linked : (heads : List ℕ) → ((x : ℕ) → x < length heads → get_or heads x 0 ≡ 0)
    → AreLinked heads []
no_links_are_linked heads heads_are_0 = grind (arith, common_steps)

-- a test of the statements from `k` on asks `k` and those after it
at_or_later : (p : ℕ → Bool) (d : Bool) (k j : ℕ) → d ≡ p k
    → ((nat_le (k + 1) j && p j) || (d && nat_eq j k)) ≡ (nat_le k j && p j)
at_or_later p d k j d_is = grind (arith, nat_tests, d_is)

module _ (db : List Statement) (narrow : Bool) (k : ℕ) (x j : ℕ) where
  -- a `$d` statement with the symbol is the first of its chain
  pub has_symbol_with_disjoint : (least : ℕ) (xs : List ℕ) → least ≡ k + 1 → xs ≡ formula_at db k
      → is_disjoint_by_width db narrow k ≡ true
      → ((nat_le least j && has_symbol_by_width db narrow x j) || (is_member xs x && nat_eq j k))
      ≡ (nat_le k j && has_symbol_by_width db narrow x j)
  has_symbol_with_disjoint least xs least_is_next_k xs_are_formula k_is_disjoint =
      rw (least_is_next_k, xs_are_formula)
      (at_or_later (has_symbol_by_width db narrow x) (is_member (formula_at db k) x) k j
      (rw k_is_disjoint refl))

  -- another statement changes no chain
  pub has_symbol_without_disjoint : (least : ℕ) → least ≡ k + 1
      → is_disjoint_by_width db narrow k ≡ false
      → (nat_le least j && has_symbol_by_width db narrow x j)
      ≡ (nat_le k j && has_symbol_by_width db narrow x j)
  has_symbol_without_disjoint least least_is_next_k k_is_not_disjoint =
      rw least_is_next_k
      (sym (or-false _)
      ∙ at_or_later (has_symbol_by_width db narrow x) false k j (rw k_is_not_disjoint refl))

-- a member of a list is below what all its members are below
pub member_lt_bound : (n y : ℕ) (xs : List ℕ) → All (λ s. s < n) xs → is_member xs y ≡ true → y < n
member_lt_bound n y [] all_lt_n y_is_member = absurd (true≢false (sym y_is_member))
member_lt_bound n y (x ∷ xs) all_lt_n y_is_member =
    y_lt_n (or_cases (nat_eq y x) (is_member xs y) y_is_member)
    (member_lt_bound n y xs (All-tail (λ s. s < n) x xs all_lt_n))
  where
    y_lt_n : (nat_eq y x ≡ true) ⊎ (is_member xs y ≡ true) → (is_member xs y ≡ true → y < n)
        → y < n
    y_lt_n (inl y_equals_x) rest_lt_n =
        (search (rules, arith, eqb-true, All-head))
    y_lt_n (inr y_in_rest) rest_lt_n = rest_lt_n y_in_rest

-- a symbol of a `$d` has a number
pub symbol_lt_symbol_count : (db : List Statement) → IsSound db → (narrow : Bool) (x j : ℕ)
    → has_symbol_by_width db narrow x j ≡ true
    → x < length (symbol_names db)
symbol_lt_symbol_count db sound narrow x j j_has_x =
    let parts =
    and_parts (is_disjoint_by_width db narrow j) (is_member (formula_at db j) x) j_has_x in
    let j_lt_length = passing_lt_length is_disjoint_statement db j
    (width_is_disjoint db narrow j parts.0) in
    member_lt_bound (length (symbol_names db)) x (formula_at db j)
    (sound.symbols_have_numbers j j_lt_length)
    parts.1

-- ---- the pairs of one chain

-- so far `pairs_so_far` has been made of `earlier_pairs`, and the chain from link `link` on is
-- still to be added
pub record IsRest (links : List (ℕ × ℕ)) (symbol link : ℕ)
    (earlier_pairs pairs_so_far : List (ℕ × ℕ))
    (all_statements : List ℕ) : Type 0 where
  pub remaining : List ℕ
  pub chain : IsLinkChain links link remaining
  pub pairs : earlier_pairs ++ map (λ j. (symbol, j)) all_statements
      ≡ pairs_so_far ++ map (λ j. (symbol, j)) remaining

module _ (links : List (ℕ × ℕ)) (symbol : ℕ) (earlier_pairs pairs_so_far : List (ℕ × ℕ))
    (all_statements : List ℕ) where
  -- after a link the rest of the chain remains
  pub rest_after_link : (link : ℕ) → 0 < link
      → IsRest links symbol link earlier_pairs pairs_so_far all_statements
      → IsRest links symbol (get_or links (link - 1) (0, 0)).1 earlier_pairs
      (pairs_so_far ++ (symbol, (get_or links (link - 1) (0, 0)).0) ∷ []) all_statements
  rest_after_link link link_gt_0 is_rest =
      is_rest_after is_rest.remaining is_rest.chain is_rest.pairs
    where
      is_rest_after : (remaining : List ℕ) → IsLinkChain links link remaining
          → earlier_pairs ++ map (λ j. (symbol, j)) all_statements
          ≡ pairs_so_far ++ map (λ j. (symbol, j)) remaining
          → IsRest links symbol (get_or links (link - 1) (0, 0)).1 earlier_pairs
          (pairs_so_far ++ (symbol, (get_or links (link - 1) (0, 0)).0) ∷ []) all_statements
      is_rest_after [] is_chain pairs_equal = absurd (omega (arith, is_chain, link_gt_0))
      is_rest_after (j ∷ js) is_chain pairs_equal = record {
        remaining = js;
        chain = is_chain.3;
        pairs =
            pairs_equal ∙ sym
            (append_assoc pairs_so_far ((symbol, j) ∷ []) (map (λ j. (symbol, j)) js))
            ∙ ap (λ i. (pairs_so_far ++ (symbol, i) ∷ []) ++ map (λ j. (symbol, j)) js)
            (sym is_chain.2);
      }

  -- if nothing remains of the chain, all its statements were added
  pub no_rest_is_all_added : (link : ℕ) → link ≡ 0
      → IsRest links symbol link earlier_pairs pairs_so_far all_statements
      → pairs_so_far ≡ earlier_pairs ++ map (λ j. (symbol, j)) all_statements
  no_rest_is_all_added link link_is_0 is_rest =
      all_are_added is_rest.remaining is_rest.chain is_rest.pairs
    where
      all_are_added : (remaining : List ℕ) → IsLinkChain links link remaining
          → earlier_pairs ++ map (λ j. (symbol, j)) all_statements
          ≡ pairs_so_far ++ map (λ j. (symbol, j)) remaining
          → pairs_so_far ≡ earlier_pairs ++ map (λ j. (symbol, j)) all_statements
      all_are_added [] is_chain pairs_equal = sym (pairs_equal ∙ append-nil pairs_so_far)
      all_are_added (j ∷ js) is_chain pairs_equal = absurd (let link_gt_0 = is_chain.0 in
          omega (arith, link_gt_0, link_is_0))

-- ---- the pairs of all chains, symbol after symbol

-- the pairs of the symbols before x
pub record ArePairsTo (db : List Statement) (narrow : Bool) (x : ℕ) (ps : List (ℕ × ℕ)) : Type 0
  where
    pub rising : AreRising ps
    pub members_are : (y j : ℕ) → has_pair ps y j ≡ (nat_lt y x && has_symbol_by_width db narrow y
        j)

-- two rising lists, one after the other, rise if the first ends before the second begins
pub rising_append : (ps qs : List (ℕ × ℕ)) → AreRising ps → AreRising qs
    → ((a b x y : ℕ) → has_pair ps a b ≡ true → has_pair qs x y ≡ true → IsBefore a b x y)
    → AreRising (ps ++ qs)
rising_append [] qs ps_are_rising qs_are_rising ps_before_qs = qs_are_rising
rising_append (p ∷ ps) qs ps_are_rising qs_are_rising ps_before_qs = (
  λ x y has_either. p_is_before x y (search (rules, arith, or_cases, list_any-append)),
  rising_append ps qs ps_are_rising.1 qs_are_rising
      (search (rules, arith, or_right)),
)
  where
    first_pair_is_in : has_pair (p ∷ ps) p.0 p.1 ≡ true
    first_pair_is_in =
        ap₂ (λ a b. (a && b) || has_pair ps p.0 p.1) (eq-eqb p.0 p.0 refl) (eq-eqb p.1 p.1 refl)

    p_is_before : (x y : ℕ) → (has_pair ps x y ≡ true) ⊎ (has_pair qs x y ≡ true)
        → IsBefore p.0 p.1 x y
    p_is_before x y (inl in_ps) = ps_are_rising.0 x y in_ps
    p_is_before x y (inr in_qs) = ps_before_qs p.0 p.1 x y first_pair_is_in in_qs

-- a row has the pairs of its symbol with each statement of the row
has_pair_in_row : (x : ℕ) (js : List ℕ) (y j : ℕ)
    → has_pair (map (λ i. (x, i)) js) y j ≡ (nat_eq y x && is_member js j)
has_pair_in_row x [] y j = sym (and-false (nat_eq y x))
has_pair_in_row x (i ∷ js) y j = grind (arith, has_pair_in_row x js y j)

-- each member is at least what the list rises from
pub least_le_member : (least j : ℕ) (js : List ℕ) → IsRisingFrom least js → is_member js j ≡ true
    → least ≤ j
least_le_member least j [] is_rising j_is_member = absurd (true≢false (sym j_is_member))
least_le_member least j (i ∷ js) is_rising j_is_member =
    grind (arith, common_steps, (least_le_member (i + 1) j js is_rising.1))

-- the pairs of a symbol with rising statements rise
rising_row : (x least : ℕ) (js : List ℕ) → IsRisingFrom least js
    → AreRising (map (λ j. (x, j)) js)
rising_row x least [] is_rising = tt
rising_row x least (i ∷ js) is_rising =
    grind (arith, has_pair_in_row, least_le_member, (rising_row x (i + 1) js is_rising.1))

-- the pairs of the symbols so far, with those of one symbol more
pub pairs_with_symbol : (db : List Statement) (narrow : Bool) (x n : ℕ) (links ps qs : List (ℕ × ℕ))
    (chain : HasChain (has_symbol_by_width db narrow x) 0 links n) → ArePairsTo db narrow x ps
    → qs ≡ ps ++ map (λ j. (x, j)) chain.statements → ArePairsTo db narrow (x + 1) qs
pairs_with_symbol db narrow x n links ps qs chain are_pairs_to qs_are_pushed =
    grind (arith, common_steps, rising_append, rising_row, list_any-append, has_pair_in_row)
