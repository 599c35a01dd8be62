-- The forests of trees after the steps of a proof.
use Rattle.std.proofs.lemmas.Grind.{common_steps}
use Rattle.std.proofs.Common.{◌≡◌, ℕ, zero, suc, ◌+◌, ◌<◌, ◌≤◌, ◌⊎◌, inl, inr, List, [], ◌∷◌, ◌++◌}
use Rattle.std.proofs.Common.{length, get_or, Some, slice_get, refl, sym, ap, ◌∙◌, subst}
use Rattle.std.proofs.Common.{append_assoc, append-nil, length-append, arith}
use Rattle.std.specs.List.{AllZip}
use Rattle.std.proofs.lemmas.List.{get_or_append_left, same_from_push}
use Rattle.mm_spec.specs.Derivation.{Formula, Context, Follows, Trees, none, more, tree, formulas}
use Rattle.mm_spec.specs.Derivation.{postfix, AreDerivations}
use Rattle.mm_spec.specs.Steps.{Step, label, marked}
use Rattle.mm_spec.specs.Valid.{IsLastTree, Adds, Expands, Derives}
use Rattle.mm_spec.specs.Laws.Complete.{HasCompleteFrame}
use Rattle.mm_spec.proofs.UniqueLaw.{◌⧺◌}
use Rattle.mm_spec.proofs.CheckedLaw.{expansion_grows, same_labels_same_forest}

-- the forest after the first n steps
abbrev pub forest_at : List Trees → ℕ → Trees
forest_at forests zero = none
forest_at forests (suc n) = get_or forests n none

abbrev pub last_tree : Trees → Trees
last_tree none = none
last_tree (more ts l f cs) = tree l f cs

-- ---- lists

-- two ways to cut one list
cut_two_ways : (xs ys us vs : List ℕ) → xs ++ ys ≡ us ++ vs
    → ((k : List ℕ) × (xs ≡ us ++ k)) ⊎ ((k : List ℕ) × (us ≡ xs ++ k) × (ys ≡ k ++ vs))
cut_two_ways [] ys us vs lists_equal = inr (us, refl, lists_equal)
cut_two_ways (x ∷ xs) ys [] vs lists_equal = inl (x ∷ xs, refl)
cut_two_ways (x ∷ xs) ys (u ∷ us) vs lists_equal =
    let heads_equal : x ≡ u = cc in
    elim (cut_two_ways xs ys us vs cc) [
      | inl cut ↦ inl (cut.0, cc (heads_equal, cut.1))
      | inr cut ↦ inr (cut.0, cc (heads_equal, cut.1), cut.2)
    ]

-- ---- forests

postfix_join : (ts us : Trees) → postfix (ts ⧺ us) ≡ postfix ts ++ postfix us
postfix_join ts none = sym (append-nil (postfix ts))
postfix_join ts (more us l f cs) = grind (arith, common_steps, append_assoc, (postfix_join ts us))

-- forests that come later change no earlier one
forest_front : (forests later : List Trees) (n : ℕ) → n ≤ length forests
    → forest_at (forests ++ later) n ≡ forest_at forests n
forest_front forests later n h1 = grind (arith, common_steps, get_or_append_left)

forest_next : (forests later : List Trees) (next_forest : Trees)
    → forest_at (forests ++ next_forest ∷ later) (suc (length forests)) ≡ next_forest
forest_next forests later next_forest = grind (arith, common_steps)

module _ (c : Context) where
  -- Step n makes a tree of the last ones of the forest before it, or adds a copy of the tree that
  -- an earlier step ended. Here ts are the trees that stay, and cs those that become the children
  -- of the new one; l is its label, and f its formula.
  abbrev pub IsForestStep : List Trees → ℕ → Step → Type 0
  IsForestStep forests n (label l) =
      (ts : Trees) × (f : Formula) × (cs : Trees) × (forest_at forests (suc n) ≡ more ts l f cs)
      × (forest_at forests n ≡ ts ⧺ cs) × Follows c (c.referent l) (formulas cs) f
  IsForestStep forests n (marked j) =
      (j < n) × (l : ℕ) × (f : Formula) × (cs : Trees) × (forest_at forests (suc n) ≡ more
      (forest_at forests n) l f cs) × (last_tree (forest_at forests (suc j)) ≡ tree l f cs)

  -- each of the steps, from step n on
  abbrev pub AreForestSteps : List Trees → ℕ → List Step → Type 0
  AreForestSteps forests n [] = Unit {0}
  AreForestSteps forests n (s ∷ steps) =
      IsForestStep forests n s × AreForestSteps forests (suc n) steps

  joined_forest_derives : (ts us : Trees) → AreDerivations c ts → AreDerivations c us
      → AreDerivations c (ts ⧺ us)
  joined_forest_derives ts none ts_derive us_derive = ts_derive
  joined_forest_derives ts (more us l f cs) ts_derive us_derive =
      (joined_forest_derives ts us ts_derive us_derive.0, us_derive.1, us_derive.2)

  abbrev ForestOf : List ℕ → Type 0
  ForestOf labels = (r : Trees) × AreDerivations c r × (postfix r ≡ labels)

  -- the first labels of a forest are those of a forest
  forest_of_front : (forest : Trees) (labels rest_labels : List ℕ) → AreDerivations c forest
      → postfix forest ≡ labels ++ rest_labels → ForestOf labels
  forest_of_front none [] rest_labels derives postfix_is = (none, tt, refl)
  forest_of_front none (x ∷ labels) rest_labels are_derivations postfix_is = absurd (cc)
  forest_of_front (more ts l f cs) labels rest_labels derives postfix_is =
      forest_by_cut (cut_two_ways (postfix ts) (postfix cs ++ l ∷ []) labels rest_labels postfix_is)
      (λ k front_is. forest_of_front ts labels k derives.0 front_is)
      (λ labels' k front_is. forest_of_front cs labels' k derives.1 front_is)
    where
      forest_of_whole_tree : (k m : List ℕ) → labels ≡ postfix ts ++ k → k ≡ postfix cs ++ m
          → l ∷ [] ≡ m ++ rest_labels → ForestOf labels
      forest_of_whole_tree k [] labels_are rest_is label_is = (
        ts ⧺ cs,
        joined_forest_derives ts cs derives.0 derives.1,
        postfix_join ts cs
            ∙ ap (λ x. postfix ts ++ x) (sym (append-nil (postfix cs)) ∙ sym rest_is)
            ∙ sym labels_are,
      )
      forest_of_whole_tree k (x ∷ []) labels_are rest_is label_is =
          let l_is_x : l ≡ x = cc in (
            more ts l f cs,
            derives,
            ap (λ y. postfix ts ++ (postfix cs ++ y ∷ [])) l_is_x
                ∙ ap (λ y. postfix ts ++ y) (sym rest_is) ∙ sym labels_are,
          )
      forest_of_whole_tree k (x ∷ y ∷ m) labels_are rest_is label_is = absurd
          (omega (arith, ap length label_is))

      forest_in_children : (k : List ℕ) → labels ≡ postfix ts ++ k
          → ((m : List ℕ) × (postfix cs ≡ k ++ m))
          ⊎ ((m : List ℕ) × (k ≡ postfix cs ++ m) × (l ∷ [] ≡ m ++ rest_labels))
          → ((labels' k : List ℕ) → postfix cs ≡ labels' ++ k → ForestOf labels') → ForestOf labels
      forest_in_children k labels_are (inl cut) forest_of_part =
          let front = forest_of_part k cut.0 cut.1 in (
            ts ⧺ front.0,
            joined_forest_derives ts front.0 derives.0 front.1,
            postfix_join ts front.0
                ∙ ap (λ x. postfix ts ++ x) front.2 ∙ sym labels_are,
          )
      forest_in_children k labels_are (inr cut) forest_of_part =
          forest_of_whole_tree k cut.0 labels_are cut.1 cut.2

      forest_by_cut : ((k : List ℕ) × (postfix ts ≡ labels ++ k))
          ⊎ ((k : List ℕ) × (labels ≡ postfix ts ++ k) × (postfix cs ++ l ∷ [] ≡ k ++ rest_labels))
          → ((k : List ℕ) → postfix ts ≡ labels ++ k → ForestOf labels)
          → ((labels' k : List ℕ) → postfix cs ≡ labels' ++ k → ForestOf labels') → ForestOf labels
      forest_by_cut (inl cut) forest_of_part in_children = forest_of_part cut.0 cut.1
      forest_by_cut (inr cut) forest_of_part in_children =
          forest_in_children cut.0 cut.1 (cut_two_ways (postfix cs) (l ∷ []) cut.0 rest_labels
          cut.2) in_children

  -- the lists after the steps so far are those of these forests
  abbrev AreListsOf : List (List ℕ) → List Trees → Type 0
  AreListsOf lists forests = AllZip (λ x t. AreDerivations c t × (postfix t ≡ x)) lists forests

  lists_push : (lists : List (List ℕ)) (forests : List Trees) (x : List ℕ) (t : Trees)
      → AreListsOf lists forests
      → AreDerivations c t → postfix t ≡ x → AreListsOf (lists ++ x ∷ []) (forests ++ t ∷ [])
  lists_push [] [] x t are_lists derives postfix_is = ((derives, postfix_is), tt)
  lists_push [] (u ∷ us) x t are_lists derives postfix_is = absurd are_lists
  lists_push (y ∷ ys) [] x t are_lists derives postfix_is = absurd are_lists
  lists_push (y ∷ ys) (u ∷ us) x t are_lists derives postfix_is =
      (are_lists.0, lists_push ys us x t are_lists.1 derives postfix_is)

  list_is_postfix : (lists : List (List ℕ)) (forests : List Trees) (j : ℕ) (list : List ℕ)
      → AreListsOf lists forests → slice_get lists j ≡ Some list
      → (j < length forests) × AreDerivations c (get_or forests j none)
      × (postfix (get_or forests j none) ≡ list)
  list_is_postfix [] forests zero list are_lists list_is = absurd (cc)
  list_is_postfix [] forests (suc j) list are_lists list_is = absurd (cc)
  list_is_postfix (x ∷ xs) [] j list are_lists list_is = absurd are_lists
  list_is_postfix (x ∷ xs) (t ∷ ts) zero list are_lists list_is =
      let x_is_list : x ≡ list = cc in (omega arith, are_lists.0.0, are_lists.0.1 ∙ x_is_list)
  list_is_postfix (x ∷ xs) (t ∷ ts) (suc j) list are_lists list_is =
      let tail_case = list_is_postfix xs ts j list are_lists.1 list_is in
      (omega (arith, tail_case.0), tail_case.1, tail_case.2)

  module _ (are_complete : (l : ℕ) → HasCompleteFrame c (c.referent l)) where
    -- one step
    move_label : (forests : List Trees) (n : ℕ) (forest next_forest : Trees) (l : ℕ)
        → AreDerivations c forest → AreDerivations c next_forest
        → postfix next_forest ≡ postfix forest ++ l ∷ [] → forest_at forests n ≡ forest
        → forest_at forests (suc n) ≡ next_forest → IsForestStep forests n (label l)
    move_label forests n forest none l derives next_derives postfix_is forest_is next_is =
        absurd (omega (arith, ap length postfix_is, length-append (postfix forest) (l ∷ [])))
    move_label forests n forest (more ts k f cs) l derives next_derives postfix_is forest_is next_is
        =
        let postfixes_equal =
        same_from_push (postfix ts ++ postfix cs) (postfix forest) k l
        (append_assoc (postfix ts) (postfix cs) (k ∷ []) ∙ postfix_is) in (
          ts,
          f,
          cs,
          next_is ∙ ap (λ x. more ts x f cs) postfixes_equal.1,
          forest_is
              ∙ (same_labels_same_forest c are_complete forest (ts ⧺ cs) derives
              (joined_forest_derives ts cs next_derives.0 next_derives.1) (sym postfixes_equal.0
              ∙ sym (postfix_join ts cs))),
          subst (λ x. Follows c (c.referent x) (formulas cs) f) postfixes_equal.1 next_derives.2,
        )

    move_marked : (lists : List (List ℕ)) (forests later : List Trees) (forest next_forest : Trees)
        (j : ℕ) → AreListsOf lists forests → AreDerivations c forest → AreDerivations c next_forest
        → Adds c lists (postfix forest) (marked j) (postfix next_forest)
        → forest_at forests (length forests) ≡ forest
        → IsForestStep (forests ++ next_forest ∷ later) (length forests) (marked j)
    move_marked lists forests later forest next_forest j are_lists derives next_derives adds
        forest_is =
        let at_j = list_is_postfix lists forests j adds.0 are_lists adds.2 in
        let repeated = adds.3 in
        let forests_equal = same_labels_same_forest c are_complete
        (get_or forests j none) repeated.0 at_j.1 repeated.1 (at_j.2 ∙ sym repeated.2) in
        copy repeated.0 repeated.1 repeated.3 forests_equal at_j.0
      where
        copy : (r : Trees) → AreDerivations c r → IsLastTree r adds.1 → get_or forests j none ≡ r
            → j < length forests → IsForestStep (forests ++ next_forest ∷ later) (length forests)
            (marked j)
        copy none derives_r is_last forests_equal j_lt_length_forests = absurd is_last
        copy (more ts l f cs) derives_r list_is_last_tree forests_equal j_lt_length_forests = (
          j_lt_length_forests,
          l,
          f,
          cs,
          forest_next forests later next_forest ∙ (same_labels_same_forest c are_complete
              next_forest (more forest l f cs) next_derives (derives, derives_r.1, derives_r.2)
              (adds.4 ∙ ap (λ z. postfix forest ++ z) list_is_last_tree))
              ∙ ap (λ z. more z l f cs) (sym (forest_front forests (next_forest ∷ later)
              (length forests) (omega arith) ∙ forest_is)),
          ap last_tree
              (forest_front forests (next_forest ∷ later) (suc j) j_lt_length_forests
              ∙ forests_equal),
        )

    move_at_end : (lists : List (List ℕ)) (forests later : List Trees) (forest next_forest : Trees)
        (s : Step)
        → AreListsOf lists forests → AreDerivations c forest → AreDerivations c next_forest
        → Adds c lists (postfix forest) s (postfix next_forest)
        → forest_at forests (length forests) ≡ forest
        → IsForestStep (forests ++ next_forest ∷ later) (length forests) s
    move_at_end lists forests later forest next_forest (label l) are_lists derives next_derives adds
        forest_is =
        move_label (forests ++ next_forest ∷ later) (length forests) forest next_forest l derives
        next_derives adds (forest_front forests (next_forest ∷ later) (length forests) (omega arith)
        ∙ forest_is) (forest_next forests later next_forest)
    move_at_end lists forests later forest next_forest (marked j) are_lists derives next_derives
        adds forest_is =
        move_marked lists forests later forest next_forest j are_lists derives next_derives adds
        forest_is

    -- the forests after the steps that are left
    record HasRest (forests : List Trees) (steps : List Step) (d : Trees) : Type 0 where
      pub later : List Trees
      pub are_forest_steps : AreForestSteps (forests ++ later) (length forests) steps
      pub ends_in_d : forest_at (forests ++ later) (length forests + length steps) ≡ d

    -- one forest more
    rest_after_step : (lists : List (List ℕ)) (forests : List Trees) (forest d : Trees) (s : Step)
        → (steps : List Step) → AreListsOf lists forests → AreDerivations c forest
        → forest_at forests (length forests) ≡ forest → (new_labels : List ℕ)
        → Adds c lists (postfix forest) s new_labels → (next_forest : Trees)
        → AreDerivations c next_forest → postfix next_forest ≡ new_labels
        → (forest_at (forests ++ next_forest ∷ []) (length (forests ++ next_forest ∷ []))
        ≡ next_forest → HasRest (forests ++ next_forest ∷ []) steps d)
        → HasRest forests (s ∷ steps) d
    rest_after_step lists forests forest d s steps are_lists derives forest_is new_labels adds
        next_forest next_derives postfix_is has_rest_after = record {
          later = next_forest ∷ later;
          are_forest_steps = (
            move_at_end lists forests later forest next_forest s are_lists derives next_derives
                (subst (Adds c lists (postfix forest) s) (sym postfix_is) adds) forest_is,
            subst (λ n. AreForestSteps (forests ++ next_forest ∷ later) n steps) length_is_suc
                (subst (λ z. AreForestSteps z (length (forests ++ next_forest ∷ [])) steps)
                lists_regroup has_rest.are_forest_steps),
          );
          ends_in_d =
              ap (forest_at (forests ++ next_forest ∷ later)) length_splits
              ∙ ap (λ z. forest_at z (length (forests ++ next_forest ∷ []) + length steps))
              (sym lists_regroup) ∙ has_rest.ends_in_d;
        }
      where
        length_is_suc : length (forests ++ next_forest ∷ []) ≡ suc (length forests)
        length_is_suc = omega (arith, length-append forests (next_forest ∷ []))

        has_rest : HasRest (forests ++ next_forest ∷ []) steps d
        has_rest = has_rest_after (ap (forest_at (forests ++ next_forest ∷ [])) length_is_suc
            ∙ forest_next forests [] next_forest)

        later : List Trees
        later = has_rest.later

        lists_regroup : (forests ++ next_forest ∷ []) ++ later ≡ forests ++ next_forest ∷ later
        lists_regroup = append_assoc forests (next_forest ∷ []) later

        length_splits : length forests + suc (length steps)
            ≡ length (forests ++ next_forest ∷ []) + length steps
        length_splits = omega (arith, length_is_suc)

    has_rest_from : (steps : List Step) (lists : List (List ℕ)) (forests : List Trees)
        (forest d : Trees) → AreListsOf lists forests → AreDerivations c forest
        → forest_at forests (length forests) ≡ forest → AreDerivations c d
        → Expands c lists (postfix forest) steps (postfix d) → HasRest forests steps d
    has_rest_from [] lists forests forest d are_lists derives forest_is d_derives expands =
        let length_is : length forests + 0 ≡ length forests = omega arith in
        record {
          later = [];
          are_forest_steps = tt;
          ends_in_d =
              ap (forest_at (forests ++ [])) length_is
              ∙ forest_front forests [] (length forests) (omega arith) ∙ forest_is
              ∙ sym (same_labels_same_forest c are_complete d forest d_derives derives expands);
        }
    has_rest_from (s ∷ steps) lists forests forest d are_lists derives forest_is d_derives expands =
        let extension =
        expansion_grows c steps (lists ++ expands.0 ∷ []) expands.0 (postfix d) expands.2 in
        let front = forest_of_front d expands.0 extension.0 d_derives extension.1 in
        rest_after_step lists forests forest d s steps are_lists derives forest_is expands.0
        expands.1 front.0 front.1 front.2 (λ next_is. has_rest_from steps (lists ++ expands.0 ∷ [])
        (forests ++ front.0 ∷ []) front.0 d (lists_push lists forests expands.0 front.0 are_lists
        front.1 front.2) front.1 next_is d_derives (subst (λ z. Expands c (lists ++ expands.0 ∷ [])
        z steps (postfix d)) (sym front.2) expands.2))

    -- a proof's forests
    pub proof_has_forests : (steps : List Step) (f : Formula) (d : Trees) → Derives c steps f d
        → (forests : List Trees) × AreForestSteps forests 0 steps × (forest_at forests (length
        steps) ≡ d)
    proof_has_forests steps f d derivation =
        let has_rest = has_rest_from steps [] [] none d tt tt refl derivation.3 derivation.4 in
        let length_is : length steps ≡ 0 + length steps = omega arith in (
          has_rest.later,
          has_rest.are_forest_steps,
          ap (forest_at has_rest.later) length_is
              ∙ has_rest.ends_in_d,
        )

  -- one of the steps
  pub forest_step_at : (forests : List Trees) (n : ℕ) (steps : List Step) (i : ℕ) → i < length steps
      → AreForestSteps forests n steps → IsForestStep forests (n + i) (get_or steps i (label 0))
  forest_step_at forests n [] i i_lt_length are_forest_steps = absurd (omega arith)
  forest_step_at forests n (s ∷ steps) zero i_lt_length are_forest_steps =
      let n_is : n ≡ n + 0 = omega arith in subst (λ k. IsForestStep forests k s) n_is
      are_forest_steps.0
  forest_step_at forests n (s ∷ steps) (suc i) i_lt_length are_forest_steps =
      let index_is : suc n + i ≡ n + suc i = omega arith in
      subst (λ k. IsForestStep forests k (get_or steps i (label 0))) index_is
      (forest_step_at forests (suc n) steps i (omega arith) are_forest_steps.1)
