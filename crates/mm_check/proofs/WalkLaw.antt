-- What holds while the steps of a proof are gone through from the last to the first.
use Rattle.std.proofs.lemmas.Grind.{common_steps}
use Rattle.std.proofs.Common.{◌≡◌, ℕ, zero, suc, ◌+◌, ◌<◌, ◌⊎◌, inl, inr, ◌↔◌, Bool, true, false}
use Rattle.std.proofs.Common.{◌&&◌, ◌||◌, List, [], ◌∷◌, ◌++◌, map, length, get_or, replicate, Some}
use Rattle.std.proofs.Common.{None, slice_get, refl, sym, ap, ◌∙◌, subst, arith, true≢false}
use Rattle.std.proofs.Common.{eqb-true, eq-eqb, append-nil, length-append, if◌then◌else◌}
use Rattle.std.specs.Prelude.{Decides}
use Rattle.std.specs.List.{list_any}
use Rattle.std.proofs.lemmas.Bool.{and_parts, and_from, or_cases, or_left, or_right}
use Rattle.std.proofs.lemmas.List.{length-map, get_or-map, get_or-replicate}
use Rattle.mm_spec.specs.Statement.{Statement}
use Rattle.mm_spec.specs.Scope.{statement_at}
use Rattle.mm_spec.specs.Frame.{is_essential, mandatory_hypotheses, formula_at, frame_at}
use Rattle.mm_spec.specs.Derivation.{Context, Formula, hypothesis, assertion, Follows, Trees, tree}
use Rattle.mm_spec.specs.Derivation.{formulas, is_member}
use Rattle.mm_spec.specs.Nodes.{tree_count, HasNode, each_root, child_counts}
use Rattle.mm_spec.specs.Nodes.{is_essential_hypothesis}
use Rattle.mm_spec.specs.Steps.{Step, label, marked, PlacedStep, placed}
use Rattle.mm_spec.specs.Valid.{Derives}
use Rattle.mm_spec.specs.Laws.Complete.{AreComplete}
use Rattle.mm_spec.specs.Citation.{context_at, referent_at, steps_at, IsProof, Cites}
use Rattle.mm_spec.specs.Laws.Stack.{IsCompleteReferent, AreGoodSteps, IsGoodStep}
use Rattle.mm_spec.proofs.CitedLaw.{two_proofs_are_equal}
use Rattle.mm_spec.proofs.UniqueLaw.{tree_count_formulas}
use Rattle.mm_steps.specs.TheoremSteps.{step_at, IsEarlier}
use Rattle.mm_rule.specs.Assertions.{is_assertion_at}
use Rattle.mm_check.specs.Contract.{is_labelled_step}
use Rattle.mm_check.specs.Flags.{child_flags, taken_flags, step_flags_after}
use Rattle.mm_check.specs.Reached.{steps_of}
use Rattle.mm_check.proofs.CompilerStateLaw.{assertion_rule, hypothesis_rule}
use Rattle.mm_check.proofs.ReachLaw.{step_at_is_good}
use Rattle.mm_check.proofs.ForestsLaw.{forest_at, IsForestStep, AreForestSteps, forest_step_at}
use Rattle.mm_check.proofs.ForestsLaw.{proof_has_forests}
use Rattle.mm_check.proofs.BackLaw.{flag_at, tree_count_join, step_flags_count, IsToBeFound}
use Rattle.mm_check.proofs.BackLaw.{label_back, marked_back}

-- The nodes of the proof are noted or still to be found, when so many first steps are left.
pub record AreFoundFrom (db : List Statement) (t : ℕ) (steps : List PlacedStep) (i : ℕ)
    (entry_flags step_flags : List Bool) (noted : List ℕ) : Type 0 where
  pub derivation : Trees
  pub is_proof : IsProof db t derivation
  pub forests : List Trees
  pub are_forest_steps : AreForestSteps (context_at db t) forests 0 (steps_of steps)
  pub step_flags_fit : length step_flags ≡ length steps
  pub entry_flags_fit : length entry_flags ≡ tree_count (forest_at forests i)
  pub are_assertions : (a : ℕ) → is_member noted a ≡ true → is_assertion_at db a ≡ true
  pub found_iff : (a : ℕ) → is_assertion_at db a ≡ true
      → HasNode (child_counts db true) each_root derivation a ↔ ((is_member noted a ≡ true)
      ⊎ IsToBeFound (child_counts db true) (forest_at forests) i entry_flags step_flags a)

-- ---- the premises of a label

-- the flag of a premise
flag_of_premise : (b : Bool) (e : ℕ → Bool) (hs : List ℕ) (n : ℕ)
    → flag_at (map (λ h. b && e h) hs) n
    ≡ (b && elim (slice_get hs n) [ None ↦ false | Some j ↦ e j ])
flag_of_premise true e [] zero = refl
flag_of_premise true e [] (suc n) = refl
flag_of_premise false e [] zero = refl
flag_of_premise false e [] (suc n) = refl
flag_of_premise b e (h ∷ hs) zero = refl
flag_of_premise b e (h ∷ hs) (suc n) = flag_of_premise b e hs n

module _ (db : List Statement) (t : ℕ) (b : Bool) (l : ℕ) (cs : Trees) (f : Formula)
    (rule_is_complete : IsCompleteReferent (context_at db t) (referent_at db t l))
    (follows : Follows (context_at db t) (referent_at db t l) (formulas cs) f) where
  -- there are as many flags as premises, and they are those of the premises for a `$e`
  record AreFlags (vs : List Bool) : Type 0 where
    pub flag_count_is : length vs ≡ tree_count cs
    pub flagged_is_counted : (n : ℕ) → flag_at vs n ≡ true → (b
        ≡ true) × (child_counts db true l n ≡ true)
    pub counted_is_flagged : (n : ℕ) → n < tree_count cs → b ≡ true
        → child_counts db true l n ≡ true → flag_at vs n ≡ true

  flags_by_kind : (q : Bool) → is_assertion_at db l ≡ q → AreFlags (if q then child_flags db b l
      else [])
  flags_by_kind true is_assertion = record {
    flag_count_is =
        length-map hs _ ∙ sym (length-map hs (formula_at db))
        ∙ sym (length-map (map (formula_at db) hs) _) ∙ sym (ap length rule_follows.1)
        ∙ tree_count_formulas cs;
    flagged_is_counted =
        λ n flag_is_set. and_parts b (is_essential_hypothesis db l n) (sym (flag_of_premise b needed
        hs n) ∙ flag_is_set);
    counted_is_flagged = λ n n_lt_count b_is_true is_counted. flag_of_premise b needed hs n
        ∙ and_from b (is_essential_hypothesis db l n) b_is_true is_counted;
  }
    where
      hs : List ℕ
      hs = mandatory_hypotheses db l

      needed : ℕ → Bool
      needed j = list_any is_essential (statement_at db j)

      rule_follows : Follows (context_at db t) (Some (assertion (frame_at db l))) (formulas cs) f
      rule_follows =
          subst (λ r. Follows (context_at db t) r (formulas cs) f)
          (assertion_rule db t l is_assertion rule_is_complete) follows
  flags_by_kind false is_assertion = record {
    flag_count_is = sym (ap length rule_follows.0) ∙ tree_count_formulas cs;
    flagged_is_counted = λ n flag_is_set. absurd (no_flag n flag_is_set);
    counted_is_flagged =
        λ n n_lt_count b_is_true is_counted. absurd
        (omega (arith, sym (ap length rule_follows.0) ∙ tree_count_formulas cs, n_lt_count));
  }
    where
      rule_follows : Follows (context_at db t) (Some (hypothesis (formula_at db l))) (formulas cs) f
      rule_follows =
          subst (λ r. Follows (context_at db t) r (formulas cs) f)
          (hypothesis_rule db t l is_assertion rule_is_complete) follows

      no_flag : (n : ℕ) → flag_at [] n ≡ true → ⊥
      no_flag zero flag_is_set = true≢false (sym flag_is_set)
      no_flag (suc n) flag_is_set = true≢false (sym flag_is_set)

  taken_flags_are_flags : AreFlags (taken_flags db b (label l))
  taken_flags_are_flags = flags_by_kind (is_assertion_at db l) refl

-- ---- one step

module _ (db : List Statement) (t : ℕ) (steps : List PlacedStep) (i : ℕ) (ws step_flags : List Bool)
    (noted : List ℕ) (flag b : Bool) (are_found : AreFoundFrom db t steps (suc i) (ws ++ flag ∷ [])
    step_flags noted)
    (i_lt_length : i < length steps) (b_is : b ≡ (flag || flag_at step_flags i)) where
  abbrev IsFoundBefore : Step → ℕ → Type 0
  IsFoundBefore s a =
      IsToBeFound (child_counts db true) (forest_at are_found.forests) i (ws ++ taken_flags db b s)
      (step_flags_after b s step_flags) a

  -- what the step does to the nodes that are still to be found
  record IsUndone (s : Step) : Type 0 where
    pub entry_flags_fit : length (ws ++ taken_flags db b s) ≡ tree_count (forest_at
        are_found.forests i)
    pub nodes_iff : (a : ℕ)
        → IsToBeFound (child_counts db true) (forest_at are_found.forests) (suc i) (ws ++ flag ∷ [])
        step_flags a ↔ (((b ≡ true) × (is_labelled_step s a ≡ true)) ⊎ IsFoundBefore s a)

  step_is_undone : (s : Step) → IsForestStep (context_at db t) are_found.forests i s
      → IsGoodStep (context_at db t) i s → IsUndone s
  step_is_undone (label l) (ts, f, cs, forest_is, forest_before_is, follows) is_good = record {
    entry_flags_fit =
        omega (
          arith,
          flag_count_is,
          are_flags.flag_count_is,
          length-append ws
              (taken_flags db b (label l)),
          ap tree_count forest_before_is,
          tree_count_join ts cs,
        );
    nodes_iff = λ a. (
      λ found. elim ((found_iff a).0 found) [
        | inl found ↦ inl (found.0, eq-eqb a l found.1)
        | inr found ↦ inr found
      ],
      λ found. (found_iff a).1
          (elim found [
            | inl found ↦ inl (found.0, eqb-true a l found.1)
            | inr found ↦ inr found
          ]),
    );
  }
    where
      are_flags : AreFlags db t b l cs f is_good follows (taken_flags db b (label l))
      are_flags = taken_flags_are_flags db t b l cs f is_good follows

      flag_count_is : length ws ≡ tree_count ts
      flag_count_is = omega (
        arith,
        are_found.entry_flags_fit,
        length-append ws (flag ∷ []),
        ap tree_count forest_is,
      )

      found_iff : (a : ℕ) → IsToBeFound (child_counts db true) (forest_at are_found.forests) (suc i)
          (ws ++ flag ∷ []) step_flags a ↔ (((b ≡ true) × (a ≡ l)) ⊎ IsFoundBefore (label l) a)
      found_iff a =
          label_back (child_counts db true) (forest_at are_found.forests) i ws step_flags flag b
          b_is a l ts f cs forest_is forest_before_is flag_count_is (taken_flags db b (label l))
          are_flags.flagged_is_counted are_flags.counted_is_flagged
  step_is_undone (marked j) (j_lt_i, l, f, cs, forest_is, last_tree_is) is_good = record {
    entry_flags_fit = ap length (append-nil ws) ∙ flag_count_is;
    nodes_iff = λ a. (
      λ found. inr ((found_iff a).0 found),
      λ found. (found_iff a).1
          (elim found [
            | inl found ↦ absurd (true≢false (sym found.1))
            | inr found ↦ found
          ]),
    );
  }
    where
      flag_count_is : length ws ≡ tree_count (forest_at are_found.forests i)
      flag_count_is = omega (
        arith,
        are_found.entry_flags_fit,
        length-append ws (flag ∷ []),
        ap tree_count forest_is,
      )

      found_iff : (a : ℕ) → IsToBeFound (child_counts db true) (forest_at are_found.forests) (suc i)
          (ws ++ flag ∷ []) step_flags a ↔ IsFoundBefore (marked j) a
      found_iff a =
          marked_back (child_counts db true) (forest_at are_found.forests) i ws step_flags flag b
          b_is a j l f cs j_lt_i forest_is last_tree_is flag_count_is
          (omega (arith, are_found.step_flags_fit, i_lt_length))

  pub walked_after_step : (s : Step) (out : List ℕ) → AreGoodSteps (context_at db t) 0 (steps_of
      steps) → s ≡ (step_at steps i).step → ((a : ℕ) → is_member out a
      ≡ (is_member noted a || (b && (is_labelled_step s a && is_assertion_at db a))))
      → AreFoundFrom db t steps i (ws ++ taken_flags db b s) (step_flags_after b s step_flags) out
  walked_after_step s out are_good s_is members_are = record {
    derivation = are_found.derivation;
    is_proof = are_found.is_proof;
    forests = are_found.forests;
    are_forest_steps = are_found.are_forest_steps;
    step_flags_fit = step_flags_count b s step_flags ∙ are_found.step_flags_fit;
    entry_flags_fit = is_undone.entry_flags_fit;
    are_assertions =
        λ a is_noted. elim (or_cases (is_member noted a) (b && (is_labelled_step s a
        && is_assertion_at db a))
        (sym (members_are a) ∙ is_noted)) [
          | inl a_is_noted ↦ are_found.are_assertions a a_is_noted
          | inr is_noted_here ↦ (and_parts (is_labelled_step s a) (is_assertion_at db a)
              (and_parts b (is_labelled_step s a && is_assertion_at db a) is_noted_here).1).1
        ];
    found_iff = λ a is_assertion. (
      λ found. elim ((are_found.found_iff a is_assertion).0 found) [
        | inl found ↦ inl (noted_stays a found)
        | inr found ↦ elim ((is_undone.nodes_iff a).0 found) [
          | inl found ↦ inl (label_is_noted a is_assertion found.0 found.1)
          | inr found ↦ inr found
        ]
      ],
      λ found. (are_found.found_iff a is_assertion).1
          (elim found [
            | inl found ↦ elim (or_cases (is_member noted a)
                (b && (is_labelled_step s a && is_assertion_at db a))
                (sym (members_are a) ∙ found)) [
                  | inl found ↦ inl found
                  | inr found ↦
                      let is_label = and_parts b (is_labelled_step s a && is_assertion_at db a)
                      found in
                      inr ((is_undone.nodes_iff a).1
                      (inl (
                        is_label.0,
                        (and_parts (is_labelled_step s a) (is_assertion_at db a)
                            is_label.1).0,
                      )))
                ]
            | inr found ↦ inr ((is_undone.nodes_iff a).1 (inr found))
          ]),
    );
  }
    where
      is_forest_step : IsForestStep (context_at db t) are_found.forests i s
      is_forest_step =
          let sum_is_i : 0 + i ≡ i = omega arith in
          subst (IsForestStep (context_at db t) are_found.forests i) (get_or-map (λ s. s.step) steps
          i (placed 0 (label 0)) (label 0) i_lt_length ∙ sym s_is) (subst (λ n. IsForestStep
          (context_at db t) are_found.forests n (get_or (steps_of steps) i (label 0))) sum_is_i
          (forest_step_at (context_at db t) are_found.forests 0 (steps_of steps) i (omega (
            arith,
            length-map steps (λ s. s.step),
            i_lt_length,
          )) are_found.are_forest_steps))

      is_undone : IsUndone s
      is_undone = step_is_undone s is_forest_step (step_at_is_good (context_at db t) steps i i s
          i_lt_length are_good refl s_is)

      noted_stays : (a : ℕ) → is_member noted a ≡ true → is_member out a ≡ true
      noted_stays a a_is_noted =
          members_are a ∙ or_left (is_member noted a)
          (b && (is_labelled_step s a && is_assertion_at db a)) a_is_noted

      label_is_noted : (a : ℕ) → is_assertion_at db a ≡ true → b ≡ true
          → is_labelled_step s a ≡ true → is_member out a ≡ true
      label_is_noted a is_assertion b_is_true is_labelled =
          members_are a ∙ or_right (is_member noted a)
          (b && (is_labelled_step s a && is_assertion_at db a))
          (and_from b (is_labelled_step s a && is_assertion_at db a) b_is_true
          (and_from (is_labelled_step s a) (is_assertion_at db a) is_labelled is_assertion))

-- the forest after a step is not empty
has_tree_after_step : (context : Context) (forests : List Trees) (i : ℕ) (s : Step)
    → IsForestStep context forests i s → 0 < tree_count (forest_at forests (suc i))
has_tree_after_step context forests i s h1 = grind (arith, common_steps)

module _ (db : List Statement) (t : ℕ) (steps : List PlacedStep) (n i : ℕ)
    (entry_flags step_flags : List Bool) (noted : List ℕ)
    (are_found : AreFoundFrom db t steps n entry_flags step_flags noted)
    (i_lt_length : i < length steps) (n_is : n ≡ suc i) where
  pub has_entry_flag : 0 < length entry_flags
  has_entry_flag =
      let index_is : n ≡ suc (0 + i) = omega (arith, n_is) in
      let has_tree = has_tree_after_step (context_at db t) are_found.forests (0 + i)
      (get_or (steps_of steps) i (label 0)) (forest_step_at (context_at db t) are_found.forests 0
      (steps_of steps) i (omega (arith, length-map steps (λ s. s.step), i_lt_length))
      are_found.are_forest_steps) in
      let flags_fit = are_found.entry_flags_fit in
      omega (
        arith,
        flags_fit,
        has_tree,
        ap (λ j. tree_count (forest_at are_found.forests j))
            index_is,
      )

  -- the same by the values that the code has
  pub walked_by_value : (ws : List Bool) (flag b : Bool) (s : Step) (flags step_flags' : List Bool)
      → (out : List ℕ) → entry_flags ≡ ws ++ flag ∷ [] → b ≡ (flag || flag_at step_flags i)
      → AreGoodSteps (context_at db t) 0 (steps_of steps) → s ≡ (step_at steps i).step
      → flags ≡ ws ++ taken_flags db b s → step_flags' ≡ step_flags_after b s step_flags → ((a : ℕ)
      → is_member out a
      ≡ (is_member noted a || (b && (is_labelled_step s a && is_assertion_at db a))))
      → AreFoundFrom db t steps i flags step_flags' out
  walked_by_value ws flag b s flags step_flags' out entry_flags_split b_is are_good s_is
      entry_flags_are step_flags_are members_are =
      rw (entry_flags_are, step_flags_are) (walked_after_step db t steps i ws step_flags noted flag
      b (subst (λ m. AreFoundFrom db t steps m (ws ++ flag ∷ []) step_flags noted) n_is
      (subst (λ z. AreFoundFrom db t steps n z step_flags noted) entry_flags_split are_found))
      i_lt_length b_is s out are_good s_is members_are)

-- a good step takes up an earlier one
pub good_step_is_earlier : (c : Context) (i n : ℕ) (s : Step) → i < n → IsGoodStep c i s
    → IsEarlier s n
good_step_is_earlier c i n s h1 h2 = grind (arith, common_steps)

-- ---- the first and the last

module _ (db : List Statement) (t : ℕ) (steps : List PlacedStep) (is_complete : AreComplete db)
  where
    pub walked_at_start : (entry_flags step_flags : List Bool) (noted : List ℕ)
        → steps ≡ steps_at db t → ((d : Trees) × IsProof db t d) → entry_flags ≡ true ∷ []
        → step_flags ≡ replicate (length steps) false → noted ≡ []
        → AreFoundFrom db t steps (length steps) entry_flags step_flags noted
    walked_at_start entry_flags step_flags noted steps_are (d, derives) entry_flags_are
        step_flags_are noted_is_nil =
        found_from_forests (proof_has_forests (context_at db t) (is_complete t) (steps_of steps)
        (formula_at db t) d derives_formula)
      where
        derives_formula : Derives (context_at db t) (steps_of steps) (formula_at db t) d
        derives_formula = subst (λ ss. Derives (context_at db t) (steps_of ss) (formula_at db t) d)
            (sym steps_are) derives

        found_from_forests : ((forests : List Trees) × AreForestSteps (context_at db t) forests 0
            (steps_of steps) × (forest_at forests (length (steps_of steps)) ≡ d))
            → AreFoundFrom db t steps (length steps) entry_flags step_flags noted
        found_from_forests (forests, are_forest_steps, ends_in_d) = record {
          derivation = d;
          is_proof = derives;
          forests = forests;
          are_forest_steps = are_forest_steps;
          step_flags_fit = ap length step_flags_are ∙ length_replicate_is (length steps);
          entry_flags_fit = ap length entry_flags_are ∙ sym (ap tree_count (forest_is_d
              ∙ derives_formula.2));
          are_assertions = λ a is_noted. absurd (true≢false (sym is_noted
              ∙ ap (λ l. is_member l a) noted_is_nil));
          found_iff = λ a is_assertion.
              (λ found. inr (inl (left_to_right a found)), λ found. right_to_left a found);
        }
          where
            length_replicate_is : (n : ℕ) → length (replicate n false) ≡ n
            length_replicate_is zero = refl
            length_replicate_is (suc n) = ap suc (length_replicate_is n)

            forest_is_d : forest_at forests (length steps) ≡ d
            forest_is_d = ap (forest_at forests) (sym (length-map steps (λ s. s.step))) ∙ ends_in_d

            counts : ℕ → ℕ → Bool
            counts = child_counts db true

            node_if_root_flag : (p q : ℕ → Bool) (a : ℕ) → q 0 ≡ true
                → HasNode counts p (tree derives_formula.0 (formula_at db t) derives_formula.1) a
                → HasNode counts q (tree derives_formula.0 (formula_at db t) derives_formula.1) a
            node_if_root_flag p q a q_0 (inl has_node) = absurd has_node
            node_if_root_flag p q a q_0 (inr has_node) = inr (q_0, has_node.1)

            left_to_right : (a : ℕ) → HasNode counts each_root d a
                → HasNode counts (flag_at entry_flags) (forest_at forests (length steps)) a
            left_to_right a has_node =
                subst (λ u. HasNode counts (flag_at entry_flags) u a) (sym (forest_is_d
                ∙ derives_formula.2)) (node_if_root_flag each_root (flag_at entry_flags) a
                (ap (λ ws. flag_at ws 0) entry_flags_are) (subst (λ u. HasNode counts each_root u a)
                derives_formula.2 has_node))

            right_to_left : (a : ℕ) → (is_member noted a ≡ true)
                ⊎ IsToBeFound counts (forest_at forests) (length steps) entry_flags step_flags a
                → HasNode counts each_root d a
            right_to_left a (inl found) = absurd (true≢false (sym found
                ∙ ap (λ l. is_member l a) noted_is_nil))
            right_to_left a (inr (inl found)) =
                subst (λ u. HasNode counts each_root u a) (sym derives_formula.2) (node_if_root_flag
                (flag_at entry_flags) each_root a refl (subst (λ u. HasNode counts
                (flag_at entry_flags) u a) (forest_is_d ∙ derives_formula.2) found))
            right_to_left a (inr (inr found)) =
                absurd (true≢false (sym found.2 ∙ ap (λ ws. flag_at ws found.0) step_flags_are
                ∙ get_or-replicate (length steps) found.0 false false found.1))

    pub walked_to_start : (entry_flags step_flags : List Bool) (noted : List ℕ)
        → AreFoundFrom db t steps 0 entry_flags step_flags noted → (a : ℕ)
        → Decides (is_member noted a) (Cites db true t a)
    walked_to_start entry_flags step_flags noted are_found a = (
      λ is_noted. let is_assertion = are_found.are_assertions a is_noted in (
        is_assertion,
        are_found.derivation,
        are_found.is_proof,
        (are_found.found_iff a is_assertion).1 (inl
            is_noted),
      ),
      λ cites. member_is_noted ((are_found.found_iff a cites.0).0
          (subst (λ d. HasNode (child_counts db true) each_root d a) (two_proofs_are_equal db
          is_complete t cites.1 are_found.derivation cites.2 are_found.is_proof)
          cites.3)),
    )
      where
        member_is_noted : (is_member noted a ≡ true)
            ⊎ IsToBeFound (child_counts db true) (forest_at are_found.forests) 0 entry_flags
            step_flags a → is_member noted a ≡ true
        member_is_noted (inl noted_or_found) = noted_or_found
        member_is_noted (inr (inl noted_or_found)) = absurd noted_or_found
        member_is_noted (inr (inr noted_or_found)) = absurd
            (omega (arith, noted_or_found.1))
