-- One step more, a step that fails, and the end.
use Rattle.std.proofs.lemmas.Grind.{common_steps}
use Rattle.std.proofs.lemmas.Bool.Decides.{nat_tests}
use Rattle.std.proofs.Common.{◌≡◌, ℕ, zero, suc, ◌+◌, ◌<◌, Bool, true, false, ◌&&◌, ◌||◌, ◌==◌}
use Rattle.std.proofs.Common.{List, [], ◌∷◌, ◌++◌, length, take, drop, Some, true≢false, Ok, Err}
use Rattle.std.proofs.Common.{refl, sym, ap, ◌∙◌, subst, arith, append-nil, append_assoc, slice_get}
use Rattle.std.proofs.Common.{length-append}
use Rattle.std.specs.List.{AllByRecursion}
use Rattle.std.proofs.lemmas.List.{drop_more, take-append-drop, take_more, map-append}
use Rattle.std.proofs.lemmas.List.Folds.{list_any-append}
use Rattle.std.proofs.lemmas.Option.{same_Some}
use Rattle.mm_spec.specs.Text.{fault}
use Rattle.mm_spec.specs.declared.Code.{Code}
use Rattle.mm_spec.specs.Derivation.{Formula, Context, Trees, none, more, tree, formulas, postfix}
use Rattle.mm_spec.specs.Derivation.{AreDerivations, is_member}
use Rattle.mm_spec.specs.Steps.{Step, label, marked, PlacedStep, placed}
use Rattle.mm_spec.specs.Valid.{Reason, code_of, Expands, Adds, Derives, StepFault, ProofEndFault}
use Rattle.mm_spec.specs.Valid.{IsEndCode, IsLastTree}
use Rattle.mm_spec.proofs.StepsLaw.{ends_after_one_more, GrownForest, good_step_grows_forest}
use Rattle.mm_spec.specs.Laws.Stack.{AreGoodSteps, IsGoodStep, step_entries, top}
use Rattle.mm_spec.specs.Statement.{Statement}
use Rattle.mm_spec.specs.Citation.{context_at}
use Rattle.mm_steps.specs.TheoremSteps.{step_at}
use Rattle.std.specs.Option.{option_map}
use Rattle.std.proofs.Math.Bool.{or-false}
use Rattle.std.proofs.lemmas.Bool.{or_left, or_right}
use Rattle.mm_spec.specs.Output.{is_theorem_at, proof_end}
use Rattle.mm_database.specs.Database.{end_at}
use Rattle.mm_rule.specs.Assertions.{is_assertion_at}
use Rattle.mm_check.specs.Contract.{is_labelled_step}
use Rattle.mm_check.specs.Reached.{IsReached, steps_of}

or_without_implied : (a b : Bool) → (b ≡ true → a ≡ true) → (a || b) ≡ (a || false)
or_without_implied a b h1 = grind (arith, common_steps)

or_distributes : (a b c : Bool) → ((a && c) || (b && c)) ≡ ((a || b) && c)
or_distributes a b c = grind (arith, common_steps)

abbrev AreWithin : List (List ℕ) → List ℕ → Type 0
AreWithin lists labels =
    AllByRecursion (λ l. (a : ℕ) → is_member l a ≡ true → is_member labels a ≡ true) lists

list_is_within : (lists : List (List ℕ)) (labels list : List ℕ) (j : ℕ) → AreWithin lists labels
    → slice_get lists j ≡ Some list → (a : ℕ) → is_member list a ≡ true → is_member labels a ≡ true
list_is_within [] labels list j are_within list_is a is_member_of_list = cc
list_is_within (l ∷ lists) labels list zero are_within list_is a is_member_of_list =
    grind (arith, common_steps, same_Some)
list_is_within (l ∷ lists) labels list (suc j) are_within list_is a is_member_of_list =
    list_is_within lists labels list j are_within.1 list_is a is_member_of_list

within_push : (lists : List (List ℕ)) (labels new_labels : List ℕ) → AreWithin lists labels
    → ((a : ℕ) → is_member labels a ≡ true → is_member new_labels a ≡ true)
    → AreWithin (lists ++ new_labels ∷ []) new_labels
within_push [] labels new_labels are_within labels_within_new = grind (arith, common_steps)
within_push (l ∷ lists) labels new_labels are_within labels_within_new =
    grind (arith, nat_tests, (within_push lists labels new_labels are_within.1 labels_within_new))

module _ (c : Context) where
  last_member : (forest : Trees) (x : List ℕ) (a : ℕ) → IsLastTree forest x → is_member x a ≡ true
      → is_member (postfix forest) a ≡ true
  last_member none x a is_last is_member_of_x = absurd is_last
  last_member (more ts l f cs) x a is_last is_member_of_x =
      list_any-append (λ y. a == y) (postfix ts) (postfix cs ++ l ∷ [])
      ∙ or_right (is_member (postfix ts) a) _ (subst (λ z. is_member z a
      ≡ true) is_last is_member_of_x)

  members_after_step : (lists : List (List ℕ)) (labels new_labels : List ℕ) (s : Step)
      → Adds c lists labels s new_labels → AreWithin lists labels → (a : ℕ)
      → is_member new_labels a ≡ (is_member labels a || is_labelled_step s a)
  members_after_step lists labels new_labels (label l) adds are_within a =
      ap (λ z. is_member z a) adds ∙ list_any-append (λ y. a == y) labels (l ∷ [])
      ∙ ap (λ b. is_member labels a || b) (or-false (a == l))
  members_after_step lists labels new_labels (marked j) adds are_within a =
      ap (λ z. is_member z a) adds.4 ∙ list_any-append (λ y. a == y) labels adds.1
      ∙ or_without_implied (is_member labels a) (is_member adds.1 a) (λ is_member_of_added.
      list_is_within lists labels adds.0 j are_within adds.2 a (subst (λ z. is_member z a ≡ true)
      adds.3.2 (last_member adds.3.0 adds.1 a adds.3.3 is_member_of_added)))

-- the forest that is reached after the steps and one good step more
pub reached_after_step : (db : List Statement) (t : ℕ) (steps_so_far : List Step)
    (stack ends : List Formula) → (noted : List ℕ) (s : Step) (out : List Formula) (noted' : List ℕ)
    → IsReached db t steps_so_far stack ends noted → IsGoodStep (context_at db t) (length ends) s
    → step_entries (context_at db t) s ends stack ≡ Ok out → ((a : ℕ)
    → is_member noted' a ≡ (is_member noted a || (is_labelled_step s a && is_assertion_at db a)))
    → IsReached db t (steps_so_far ++ s ∷ []) out (ends ++ top out ∷ []) noted'
reached_after_step db t steps_so_far stack ends noted s out noted' is_reached is_good entries_are
    members_are =
    let c = context_at db t in
    let grown =
    subst (GrownForest c is_reached.lists is_reached.forest s) (ap (step_entries c s ends)
    is_reached.entries_are ∙ entries_are) (good_step_grows_forest c is_reached.lists ends
    is_reached.forest s is_reached.are_derivations is_reached.lists_end_in_formulas is_good)
    in
    let members = members_after_step c is_reached.lists (postfix is_reached.forest) (postfix
    grown.0) s grown.2
    is_reached.lists_are_within in
    record {
      forest = grown.0;
      are_derivations = grown.1;
      entries_are = grown.3;
      lists = is_reached.lists ++ postfix grown.0 ∷ [];
      lists_end_in_formulas = ends_after_one_more c is_reached.lists ends (postfix grown.0)
          (top out) is_reached.lists_end_in_formulas (grown.0, grown.1, refl, grown.4);
      expands_from_start =
          λ later_steps labels expansion. subst (λ z. Expands c [] [] z labels)
          (sym (append_assoc steps_so_far (s ∷ []) later_steps))
          (is_reached.expands_from_start (s ∷ later_steps) labels
          (postfix grown.0, grown.2, expansion));
      lists_are_within =
          within_push is_reached.lists (postfix is_reached.forest) (postfix grown.0)
          is_reached.lists_are_within
          (λ a is_label. members a ∙ or_left _ _ is_label);
      noted_are =
          λ a. members_are a
          ∙ ap (λ b. b || (is_labelled_step s a && is_assertion_at db a)) (is_reached.noted_are a)
          ∙ or_distributes (is_member (postfix is_reached.forest) a) (is_labelled_step s a)
          (is_assertion_at db a) ∙ ap (λ b. b && is_assertion_at db a) (sym (members a));
    }

-- a step that fails
pub failing_step_refuses : (db : List Statement) (t : ℕ) (steps : List PlacedStep) (i : ℕ)
    → (stack ends : List Formula) (noted : List ℕ) (reason : Reason)
    → i < length steps → IsReached db t (steps_of (take i steps)) stack ends noted
    → IsGoodStep (context_at db t) (length ends) (step_at steps i).step
    → step_entries (context_at db t) (step_at steps i).step ends stack ≡ Err reason
    → StepFault (context_at db t) steps (fault (step_at steps i).at (code_of reason))
failing_step_refuses db t steps i stack ends noted reason i_lt_length_steps is_reached is_good
    step_fails =
    let c = context_at db t in
    let s = step_at steps i in
    record {
      before = take i steps;
      failing = s;
      after = drop (i + 1) steps;
      splits =
          sym (take-append-drop i steps)
          ∙ ap (λ z. take i steps ++ z) (drop_more steps i (placed 0 (label 0)) i_lt_length_steps);
      forest = is_reached.forest;
      derivations = is_reached.are_derivations;
      expansion =
          subst (λ z. Expands c [] [] z (postfix is_reached.forest))
          (append-nil (steps_of (take i steps)))
          (is_reached.expands_from_start [] (postfix is_reached.forest) refl);
      reason = reason;
      fails =
          (subst (GrownForest c is_reached.lists is_reached.forest s.step)
          (ap (step_entries c s.step ends) is_reached.entries_are ∙ step_fails)
          (good_step_grows_forest c is_reached.lists ends is_reached.forest s.step
          is_reached.are_derivations is_reached.lists_end_in_formulas is_good));
      fault_is = refl;
    }

module _ (db : List Statement) (t : ℕ) (steps : List PlacedStep) (stack ends : List Formula)
    (noted : List ℕ) (is_reached : IsReached db t (steps_of steps) stack ends noted) where
  whole_expansion : Expands (context_at db t) [] [] (steps_of steps) (postfix is_reached.forest)
  whole_expansion =
      subst (λ z. Expands (context_at db t) [] [] z (postfix is_reached.forest)) (append-nil
      (steps_of steps)) (is_reached.expands_from_start [] (postfix is_reached.forest) refl)

  pub end_derives : (f : Formula) → stack ≡ f ∷ []
      → Derives (context_at db t) (steps_of steps) f is_reached.forest
  end_derives f stack_is = forest_derives is_reached.forest is_reached.are_derivations
      (is_reached.entries_are ∙ stack_is) whole_expansion
    where
      two_entries_not_one : (xs : List Formula) (h g : Formula) → ¬ ((xs ++ h ∷ []) ++ g ∷ []
          ≡ f ∷ [])
      two_entries_not_one xs h g stack_is =
          omega (
            arith,
            ap length stack_is,
            length-append (xs ++ h ∷ []) (g ∷ []),
            length-append xs (h ∷ []),
          )

      forest_derives : (forest : Trees) → AreDerivations (context_at db t) forest
          → formulas forest ≡ f ∷ []
          → Expands (context_at db t) [] [] (steps_of steps) (postfix forest)
          → Derives (context_at db t) (steps_of steps) f forest
      forest_derives none derives stack_is expansion = cc
      forest_derives (more none l g cs) derives stack_is expansion =
          (l, cs, ap (λ z. tree l z cs) (ap top stack_is), derives, expansion)
      forest_derives (more (more ts m h bs) l g cs) derives stack_is expansion = absurd
          (two_entries_not_one (formulas ts) h g stack_is)

  pub end_code_is_fault : (end : ℕ) (code : Code) (formula : Formula) → IsEndCode stack formula code
      → ProofEndFault (context_at db t) steps formula end (fault end code)
  end_code_is_fault end code formula is_end_code = record {
    forest = is_reached.forest;
    derivations = is_reached.are_derivations;
    expansion = whole_expansion;
    code = code;
    fails = subst (λ z. IsEndCode z formula code)
        (sym is_reached.entries_are) is_end_code;
    fault_is = refl;
  }

-- the step at a place is good
pub step_is_good_from : (c : Context) (n : ℕ) (steps : List PlacedStep) (i : ℕ) → i < length steps
    → AreGoodSteps c n (steps_of steps) → IsGoodStep c (n + i) (step_at steps i).step
step_is_good_from c n [] i i_lt_length are_good = absurd (omega arith)
step_is_good_from c n (s ∷ steps) zero i_lt_length are_good = grind (arith, common_steps)
step_is_good_from c n (s ∷ steps) (suc i) i_lt_length are_good =
    let sum_is : suc n + i ≡ n + suc i = omega arith in
    subst (λ m. IsGoodStep c m (step_at steps i).step) sum_is
    (step_is_good_from c (suc n) steps i (omega arith) are_good.1)

pub step_at_is_good : (c : Context) (steps : List PlacedStep) (i n : ℕ) (s : Step)
    → i < length steps
    → AreGoodSteps c 0 (steps_of steps) → n ≡ i → s ≡ (step_at steps i).step → IsGoodStep c n s
step_at_is_good c steps i n s i_lt_length are_good n_is_i s_is =
    grind (arith, common_steps, step_is_good_from)

pub take_step : (steps : List PlacedStep) (i : ℕ) → i < length steps
    → steps_of (take (i + 1) steps) ≡ steps_of (take i steps) ++ (step_at steps i).step ∷ []
take_step steps i i_lt_length = grind (arith, common_steps, take_more, map-append)

-- before the first step the state is reached by no steps
pub no_steps_are_reached : (db : List Statement) (t : ℕ) (stack ends : List Formula)
    (noted : List ℕ) → stack ≡ [] → ends ≡ [] → noted ≡ [] → IsReached db t [] stack ends noted
no_steps_are_reached db t stack ends noted stack_is_nil ends_is_nil noted_is_nil =
    rw (stack_is_nil, ends_is_nil, noted_is_nil)
    (record {
      forest = none;
      are_derivations = tt;
      entries_are = refl;
      lists = [];
      lists_end_in_formulas = tt;
      expands_from_start = λ later_steps labels expansion. expansion;
      lists_are_within = tt;
      noted_are = λ a. refl;
    })

-- the place of the end of a theorem's proof
pub proof_end_is_end_at : (db : List Statement) (t end : ℕ) → is_theorem_at db t ≡ true
    → option_map end_at (slice_get db t) ≡ Some end → proof_end (slice_get db t) ≡ end
proof_end_is_end_at db t end is_theorem_t end_is = grind (arith, nat_tests, slice_get, true≢false)
