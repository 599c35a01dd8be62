-- One step back over the steps of a proof: which nodes are still to be found, and where.
use Rattle.std.proofs.lemmas.Grind.{common_steps}
use Rattle.std.proofs.lemmas.Bool.Decides.{nat_tests}
use Rattle.std.proofs.Common.{◌≡◌, ℕ, suc, ◌+◌, ◌<◌, ◌⊎◌, inl, inr, ◌↔◌, Bool, true, false, ◌||◌}
use Rattle.std.proofs.Common.{List, [], ◌∷◌, ◌++◌, length, get_or, refl, sym, ap, ◌∙◌, subst, arith}
use Rattle.std.proofs.Common.{true≢false, eqb-true}
use Rattle.std.proofs.lemmas.Bool.{cases_lt, or_cases, or_left, or_right, eqb-false}
use Rattle.std.proofs.lemmas.List.{get_or_append_left, get_or-append-add, get_or-set_same}
use Rattle.std.proofs.lemmas.List.{get_or-set_other, length-set}
use Rattle.mm_spec.specs.Derivation.{Formula, Trees, none, more, tree}
use Rattle.mm_spec.specs.Nodes.{tree_count, HasNode, each_root}
use Rattle.mm_spec.specs.Steps.{Step, marked}
use Rattle.mm_spec.proofs.UniqueLaw.{◌⧺◌}
use Rattle.mm_check.specs.Flags.{step_flags_after}
use Rattle.mm_check.proofs.ForestsLaw.{last_tree}

-- the flag of a number, if there is one
abbrev pub flag_at : List Bool → ℕ → Bool
flag_at flags n = get_or flags n false

-- ---- nodes of forests

pub tree_count_join : (ts us : Trees) → tree_count (ts ⧺ us) ≡ tree_count ts + tree_count us
tree_count_join ts none = omega arith
tree_count_join ts (more us l f cs) = omega (arith, tree_count_join ts us)

module _ (counts : ℕ → ℕ → Bool) where
  -- counts l n: whether child n of a node with the label l counts. Where there is a node, some root
  -- counts.
  some_root_counts : (p : ℕ → Bool) (ts : Trees) (a : ℕ) → HasNode counts p ts a → (n : ℕ) × (p n
      ≡ true)
  some_root_counts p none a has_node = absurd has_node
  some_root_counts p (more ts l f cs) a (inl has_node) = some_root_counts p ts a has_node
  some_root_counts p (more ts l f cs) a (inr has_node) = (tree_count ts, has_node.0)

  -- it stays a node if more roots count
  node_by_more_roots : (p q : ℕ → Bool) (ts : Trees) (a : ℕ)
      → ((n : ℕ) → n < tree_count ts → p n ≡ true → q n ≡ true) → HasNode counts p ts a
      → HasNode counts q ts a
  node_by_more_roots p q none a p_implies_q has_node = absurd has_node
  node_by_more_roots p q (more ts l f cs) a p_implies_q (inl has_node) =
      inl (node_by_more_roots p q ts a (λ n n_lt_count p_n. p_implies_q n
      (omega (arith, n_lt_count)) p_n) has_node)
  node_by_more_roots p q (more ts l f cs) a p_implies_q (inr has_node) = inr
      (p_implies_q (tree_count ts) (omega arith) has_node.0, has_node.1)

  -- a node of the trees on the left is one of all, and so is one of those on the right
  node_of_left : (p : ℕ → Bool) (ts us : Trees) (a : ℕ) → HasNode counts p ts a
      → HasNode counts p (ts ⧺ us) a
  node_of_left p ts none a has_node = has_node
  node_of_left p ts (more us l f cs) a has_node = inl (node_of_left p ts us a has_node)

  node_of_right : (p : ℕ → Bool) (ts us : Trees) (a : ℕ)
      → HasNode counts (λ n. p (tree_count ts + n)) us a → HasNode counts p (ts ⧺ us) a
  node_of_right p ts none a has_node = absurd has_node
  node_of_right p ts (more us l f cs) a (inl has_node) = inl (node_of_right p ts us a has_node)
  node_of_right p ts (more us l f cs) a (inr has_node) = inr
      (ap p (tree_count_join ts us) ∙ has_node.0, has_node.1)

  -- there are no others
  node_of_either : (p : ℕ → Bool) (ts us : Trees) (a : ℕ) → HasNode counts p (ts ⧺ us) a
      → HasNode counts p ts a ⊎ HasNode counts (λ n. p (tree_count ts + n)) us a
  node_of_either p ts none a has_node = inl has_node
  node_of_either p ts (more us l f cs) a (inl has_node) = elim (node_of_either p ts us a
      has_node) [
        | inl has_node ↦ inl has_node
        | inr has_node ↦ inr (inl has_node)
      ]
  node_of_either p ts (more us l f cs) a (inr has_node) = inr (inr
      (ap p (sym (tree_count_join ts us)) ∙ has_node.0, has_node.1))

-- ---- flags

flag_at_end : (ws : List Bool) (b : Bool) → flag_at (ws ++ b ∷ []) (length ws) ≡ b
flag_at_end ws b = grind (arith, common_steps)

flag_of_front : (ws us vs : List Bool) (n : ℕ) → n < length ws
    → flag_at (ws ++ us) n ≡ flag_at (ws ++ vs) n
flag_of_front ws us vs n n_lt_length = grind (arith, common_steps, get_or_append_left)

-- a flag that is set stays set
step_flags_stay : (b : Bool) (s : Step) (step_flags : List Bool) (k : ℕ)
    → flag_at step_flags k ≡ true → flag_at (step_flags_after b s step_flags) k ≡ true
step_flags_stay b s step_flags k h1 =
    grind (
      arith,
      common_steps,
      cases_lt,
      eqb-true,
      get_or-set_same,
      true≢false,
      get_or-set_other,
      eqb-false,
    )

-- a step that repeats a marked step sets the flag of that step, if its own entry is essential
repeated_step_has_flag : (j : ℕ) (step_flags : List Bool) → j < length step_flags → (b : Bool)
    → b ≡ true → flag_at (step_flags_after b (marked j) step_flags) j ≡ true
repeated_step_has_flag j step_flags h1 b h2 = grind (arith, nat_tests, get_or-set_same, true≢false)

-- and it sets no other flag
no_other_step_gets_flag : (j : ℕ) (step_flags : List Bool) (b : Bool) (k : ℕ)
    → flag_at (step_flags_after b (marked j) step_flags) k ≡ true
    → (flag_at step_flags k ≡ true) ⊎ ((k ≡ j) × (b ≡ true))
no_other_step_gets_flag j step_flags b k h1 =
    grind (arith, common_steps, eqb-true, get_or-set_other, eqb-false)

pub step_flags_count : (b : Bool) (s : Step) (step_flags : List Bool)
    → length (step_flags_after b s step_flags) ≡ length step_flags
step_flags_count b s step_flags = grind (arith, common_steps, length-set)

-- ---- one step back

module _ (counts : ℕ → ℕ → Bool) (forest_after : ℕ → Trees) where
  -- a node of what one of the first i steps ended, if that is wanted
  abbrev pub IsNodeOfRepeatedStep : ℕ → List Bool → ℕ → Type 0
  IsNodeOfRepeatedStep i step_flags a =
      (j : ℕ) × (j < i) × (flag_at step_flags j ≡ true)
      × HasNode counts each_root (last_tree (forest_after (suc j))) a

  -- The nodes that are still to be found, when the first i steps are left: those of the entries
  -- with a flag, and those of what is wanted.
  abbrev pub IsToBeFound : ℕ → List Bool → List Bool → ℕ → Type 0
  IsToBeFound i entry_flags step_flags a = HasNode counts (flag_at entry_flags) (forest_after i) a
      ⊎ IsNodeOfRepeatedStep i step_flags a

  -- the nodes of one tree
  tree_node : (l : ℕ) (f : Formula) (cs : Trees) (a : ℕ) → HasNode counts each_root (tree l f cs) a
      → (a ≡ l) ⊎ HasNode counts (counts l) cs a
  tree_node l f cs a (inl has_node) = absurd has_node
  tree_node l f cs a (inr has_node) = has_node.1

  module _ (i : ℕ) (ws step_flags : List Bool) (flag b : Bool)
      (b_is : b ≡ (flag || flag_at step_flags i)) (a : ℕ) where
    b_if_flag : flag ≡ true → b ≡ true
    b_if_flag flag_is_set = b_is ∙ or_left flag (flag_at step_flags i) flag_is_set

    b_if_step_flag : flag_at step_flags i ≡ true → b ≡ true
    b_if_step_flag flag_is_set = b_is ∙ or_right flag (flag_at step_flags i) flag_is_set

    last_flag : (n : ℕ) → length ws ≡ n → flag_at (ws ++ flag ∷ []) n ≡ flag
    last_flag n length_is_n = ap (flag_at (ws ++ flag ∷ [])) (sym length_is_n) ∙ flag_at_end ws flag

    -- an essential tree of step i, by its flag or since it is wanted
    essential_tree_is_found : (earlier_trees : Trees) (l : ℕ) (f : Formula) (cs : Trees)
        → forest_after (suc i) ≡ more earlier_trees l f cs
        → length ws ≡ tree_count earlier_trees → b ≡ true → (a ≡ l) ⊎ HasNode counts (counts l) cs a
        → IsToBeFound (suc i) (ws ++ flag ∷ []) step_flags a
    essential_tree_is_found earlier_trees l f cs forest_is flag_count_is b_is_true is_label_or_child
        = elim (or_cases flag (flag_at step_flags i) (sym b_is ∙ b_is_true)) [
          | inl flag_is_set ↦
              inl (subst (λ t. HasNode counts (flag_at (ws ++ flag ∷ [])) t a) (sym forest_is)
              (inr (
                last_flag (tree_count earlier_trees) flag_count_is
                    ∙ flag_is_set,
                is_label_or_child,
              )))
          | inr flag_is_set ↦ inr (
            i,
            omega arith,
            flag_is_set,
            subst (λ t. HasNode counts each_root t a)
                (sym (ap last_tree forest_is)) (inr (refl, is_label_or_child)),
          )
        ]

    -- what is wanted of the first steps and of step i
    repeated_step_cases : (earlier_trees : Trees) (l : ℕ) (f : Formula) (cs : Trees)
        → forest_after (suc i) ≡ more earlier_trees l f cs
        → IsNodeOfRepeatedStep (suc i) step_flags a
        → ((b ≡ true) × ((a ≡ l) ⊎ HasNode counts (counts l) cs a))
        ⊎ IsNodeOfRepeatedStep i step_flags a
    repeated_step_cases earlier_trees l f cs forest_is repeated = elim (cases_lt repeated.0 i) [
      | inl j_lt_i ↦ inr (repeated.0, j_lt_i, repeated.2, repeated.3)
      | inr i_le_j ↦ let j_is_i : repeated.0 ≡ i = omega (arith, i_le_j, repeated.1) in
          inl (
            b_if_step_flag (subst (λ n. flag_at step_flags n ≡ true) j_is_i repeated.2),
            tree_node l f cs a
                (subst (λ t. HasNode counts each_root t a)
                (ap (λ n. last_tree (forest_after (suc n))) j_is_i
                ∙ ap last_tree forest_is) repeated.3),
          )
    ]

    repeated_earlier : IsNodeOfRepeatedStep i step_flags a → IsNodeOfRepeatedStep (suc i) step_flags
        a
    repeated_earlier repeated = (repeated.0, omega (arith, repeated.1), repeated.2, repeated.3)

    -- the step of a label, whose entry gives way to those of its premises
    module _ (l : ℕ) (ts : Trees) (f : Formula) (cs : Trees) (forest_is : forest_after (suc i)
        ≡ more ts l f cs)
        (forest_before_is : forest_after i ≡ ts ⧺ cs) (flag_count_is : length ws
        ≡ tree_count ts) (vs : List Bool)
        (flagged_are_counted : (n : ℕ) → flag_at vs n ≡ true → (b ≡ true) × (counts l n ≡ true))
        (counted_are_flagged : (n : ℕ) → n < tree_count cs → b ≡ true → counts l n ≡ true
        → flag_at vs n ≡ true)
      where
        flag_after : (n : ℕ) → flag_at (ws ++ vs) (tree_count ts + n) ≡ flag_at vs n
        flag_after n = ap (λ k. flag_at (ws ++ vs) (k + n)) (sym flag_count_is)
            ∙ get_or-append-add ws vs n false

        node_of_left_trees : (us xs : List Bool) → HasNode counts (flag_at (ws ++ us)) ts a
            → HasNode counts (flag_at (ws ++ xs)) ts a
        node_of_left_trees us xs has_node =
            node_by_more_roots counts (flag_at (ws ++ us)) (flag_at (ws ++ xs)) ts a
            (λ n n_lt_count flag_is_set. sym (flag_of_front ws us xs n
            (omega (arith, n_lt_count, flag_count_is))) ∙ flag_is_set) has_node

        node_of_joined : HasNode counts (flag_at (ws ++ vs)) (ts ⧺ cs) a
            → IsToBeFound i (ws ++ vs) step_flags a
        node_of_joined has_node = inl (subst (λ t. HasNode counts (flag_at (ws ++ vs)) t a)
            (sym forest_before_is) has_node)

        found_below : b ≡ true → (a ≡ l) ⊎ HasNode counts (counts l) cs a
            → ((b ≡ true) × (a ≡ l)) ⊎ IsToBeFound i (ws ++ vs) step_flags a
        found_below b_is_true (inl is_label_or_child) = inl (b_is_true, is_label_or_child)
        found_below b_is_true (inr is_label_or_child) =
            inr (node_of_joined (node_of_right counts (flag_at (ws ++ vs)) ts cs a
            (node_by_more_roots counts (counts l) (λ n. flag_at (ws ++ vs) (tree_count ts + n)) cs a
            (λ n n_lt_count n_counts. flag_after n ∙ counted_are_flagged n n_lt_count b_is_true
            n_counts) is_label_or_child)))

        found_before_step : IsToBeFound (suc i) (ws ++ flag ∷ []) step_flags a
            → ((b ≡ true) × (a ≡ l)) ⊎ IsToBeFound i (ws ++ vs) step_flags a
        found_before_step (inl to_be_found) =
            elim (subst (λ t. HasNode counts (flag_at (ws ++ flag ∷ [])) t a) forest_is
            to_be_found) [
              | inl has_node ↦ inr (node_of_joined
                  (node_of_left counts (flag_at (ws ++ vs)) ts cs a (node_of_left_trees (flag ∷ [])
                  vs
                  has_node)))
              | inr has_node ↦ found_below (b_if_flag (sym (last_flag (tree_count ts)
                  flag_count_is) ∙ has_node.0)) has_node.1
            ]
        found_before_step (inr to_be_found) = elim (repeated_step_cases ts l f cs forest_is
            to_be_found) [
              | inl essential ↦ found_below essential.0 essential.1
              | inr repeated ↦ inr (inr repeated)
            ]

        found_after_step : ((b ≡ true) × (a ≡ l)) ⊎ IsToBeFound i (ws ++ vs) step_flags a
            → IsToBeFound (suc i) (ws ++ flag ∷ []) step_flags a
        found_after_step (inl to_be_found) = essential_tree_is_found ts l f cs forest_is
            flag_count_is to_be_found.0 (inl to_be_found.1)
        found_after_step (inr (inl to_be_found)) =
            elim (node_of_either counts (flag_at (ws ++ vs)) ts cs a
            (subst (λ t. HasNode counts (flag_at (ws ++ vs)) t a) forest_before_is to_be_found)) [
              | inl has_node ↦
                  inl (subst (λ t. HasNode counts (flag_at (ws ++ flag ∷ [])) t a) (sym forest_is)
                  (inl (node_of_left_trees vs (flag ∷ []) has_node)))
              | inr has_node ↦
                  let flagged = some_root_counts counts (λ n. flag_at (ws ++ vs) (tree_count ts
                  + n))
                  cs a has_node in
                  essential_tree_is_found ts l f cs forest_is flag_count_is
                  ((flagged_are_counted flagged.0 (sym (flag_after flagged.0) ∙ flagged.1)).0)
                  (inr (node_by_more_roots counts (λ n. flag_at (ws ++ vs) (tree_count ts + n))
                  (counts l) cs a (λ n n_lt_count n_is_flagged. (flagged_are_counted n
                  (sym (flag_after n) ∙ n_is_flagged)).1) has_node))
            ]
        found_after_step (inr (inr to_be_found)) = inr (repeated_earlier to_be_found)

        pub label_back : IsToBeFound (suc i) (ws ++ flag ∷ []) step_flags a
            ↔ (((b ≡ true) × (a ≡ l)) ⊎ IsToBeFound i (ws ++ vs) step_flags a)
        label_back = (found_before_step, found_after_step)

    -- the step of a mark, whose entry goes
    module _ (j l : ℕ) (f : Formula) (cs : Trees) (j_lt_i : j < i)
        (forest_is : forest_after (suc i) ≡ more (forest_after i) l f cs) (last_tree_is : last_tree
        (forest_after (suc j)) ≡ tree l f cs)
        (flag_count_is : length ws ≡ tree_count (forest_after i)) (i_lt_length : i < length
        step_flags) where
      node_of_earlier_trees : (us xs : List Bool) → HasNode counts (flag_at (ws ++ us))
          (forest_after i) a → HasNode counts (flag_at (ws ++ xs)) (forest_after i) a
      node_of_earlier_trees us xs has_node =
          node_by_more_roots counts (flag_at (ws ++ us)) (flag_at (ws ++ xs)) (forest_after i) a
          (λ n n_lt_count flag_is_set. sym (flag_of_front ws us xs n
          (omega (arith, n_lt_count, flag_count_is))) ∙ flag_is_set) has_node

      repeated_is_found : b ≡ true → (a ≡ l) ⊎ HasNode counts (counts l) cs a
          → IsToBeFound i (ws ++ []) (step_flags_after b (marked j) step_flags) a
      repeated_is_found b_is_true is_label_or_child =
          inr (
            j,
            j_lt_i,
            repeated_step_has_flag j step_flags (omega (arith, j_lt_i, i_lt_length)) b b_is_true,
            subst
                (λ t. HasNode counts each_root t a) (sym last_tree_is) (inr
                (refl, is_label_or_child)),
          )

      found_before_marked : IsToBeFound (suc i) (ws ++ flag ∷ []) step_flags a
          → IsToBeFound i (ws ++ []) (step_flags_after b (marked j) step_flags) a
      found_before_marked (inl to_be_found) =
          elim (subst (λ t. HasNode counts (flag_at (ws ++ flag ∷ [])) t a) forest_is
          to_be_found) [
            | inl has_node ↦ inl (node_of_earlier_trees (flag ∷ []) [] has_node)
            | inr has_node ↦
                repeated_is_found (b_if_flag (sym (last_flag (tree_count (forest_after i))
                flag_count_is) ∙ has_node.0)) has_node.1
          ]
      found_before_marked (inr to_be_found) = elim (repeated_step_cases (forest_after i) l
          f cs forest_is to_be_found) [
            | inl essential ↦ repeated_is_found essential.0 essential.1
            | inr repeated ↦ inr (
              repeated.0,
              repeated.1,
              step_flags_stay b (marked j)
                  step_flags repeated.0 repeated.2,
              repeated.3,
            )
          ]

      found_after_marked : IsToBeFound i (ws ++ []) (step_flags_after b (marked j) step_flags) a
          → IsToBeFound (suc i) (ws ++ flag ∷ []) step_flags a
      found_after_marked (inl to_be_found) =
          inl (subst (λ t. HasNode counts (flag_at (ws ++ flag ∷ [])) t a) (sym forest_is)
          (inl (node_of_earlier_trees [] (flag ∷ []) to_be_found)))
      found_after_marked (inr to_be_found) = elim (no_other_step_gets_flag j step_flags b
          to_be_found.0 to_be_found.2) [
            | inl flag_is_set ↦ inr (repeated_earlier
                (to_be_found.0, to_be_found.1, flag_is_set, to_be_found.3))
            | inr is_repeated ↦
                essential_tree_is_found (forest_after i) l f cs forest_is flag_count_is
                is_repeated.1
                (tree_node l f cs a (subst (λ t. HasNode counts each_root t a)
                (ap (λ n. last_tree (forest_after (suc n))) is_repeated.0
                ∙ last_tree_is) to_be_found.3))
          ]

      pub marked_back : IsToBeFound (suc i) (ws ++ flag ∷ []) step_flags a
          ↔ IsToBeFound i (ws ++ []) (step_flags_after b (marked j) step_flags) a
      marked_back = (found_before_marked, found_after_marked)
