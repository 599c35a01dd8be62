-- Steps with marks: a stack of formulas, and the formula after each step, are exact too.
use Rattle.std.proofs.Common.{rules, ◌≡◌, ℕ, zero, suc, ◌<◌, List, [], ◌∷◌, ◌++◌, length, Option}
use Rattle.std.proofs.Common.{Some, None, Result, Ok, Err, refl, sym, ap, arith, length-append}
use Rattle.std.proofs.Common.{slice_get}
use Rattle.std.proofs.lemmas.Grind.{common_steps}
use Rattle.std.specs.List.{AllZip}
use Rattle.mm_spec.specs.Derivation.{Formula, Referent, hypothesis, assertion, Context, Follows}
use Rattle.mm_spec.specs.Derivation.{Trees, none, more, formulas, postfix, AreDerivations}
use Rattle.mm_spec.specs.Steps.{Step, label, marked}
use Rattle.mm_spec.specs.Valid.{Reason, StepFails, Adds, Expands}
use Rattle.mm_spec.specs.Laws.Complete.{HasCompleteFrame}
use Rattle.mm_spec.proofs.StackStepsLaw.{StepFailure, proceed, AreGood, StepOutcome, step_has_outcome}
use Rattle.mm_spec.proofs.StackStepsLaw.{step_grows_forest}
use Rattle.mm_spec.specs.Laws.Stack.{IsCompleteReferent, top, IsLastFormula, EndsInFormula}
use Rattle.mm_spec.specs.Laws.Stack.{step_entries, IsGoodStep, AreGoodSteps}

pub top_of_appended : (fs : List Formula) (f : Formula) → top (fs ++ f ∷ []) ≡ f
top_of_appended [] f = refl
top_of_appended (g ∷ []) f = refl
top_of_appended (g ∷ h ∷ fs) f = top_of_appended (h ∷ fs) f

module _ (c : Context) where
  followed_referent_is_complete : (r : Option Referent) (ps : List Formula) (f : Formula)
      → HasCompleteFrame c r
      → Follows c r ps f
      → IsCompleteReferent c r
  followed_referent_is_complete None ps f all_complete follows = follows
  followed_referent_is_complete (Some (hypothesis g)) ps f all_complete follows = tt
  followed_referent_is_complete (Some (assertion a)) ps f all_complete follows = all_complete

  appended_are_good : (xs ys : List ℕ) → AreGood c xs → AreGood c ys → AreGood c (xs ++ ys)
  appended_are_good [] ys xs_are_good ys_are_good = ys_are_good
  appended_are_good (x ∷ xs) ys xs_are_good ys_are_good =
      (xs_are_good.0, appended_are_good xs ys xs_are_good.1 ys_are_good)

  -- in a forest of derivations each label refers to something
  pub forest_labels_are_good : ((l : ℕ) → HasCompleteFrame c (c.referent l)) → (forest : Trees)
      → AreDerivations c forest
      → AreGood c (postfix forest)
  forest_labels_are_good all_complete none are_derivations = tt
  forest_labels_are_good all_complete (more ts l f cs) are_derivations =
      let earlier_are_good = forest_labels_are_good all_complete ts are_derivations.0 in
      let children_are_good = forest_labels_are_good all_complete cs are_derivations.1 in
      grind (arith, common_steps, followed_referent_is_complete, appended_are_good)

  end_after_step : (lists : List (List ℕ)) (last_formulas : List Formula) (j : ℕ)
      → AllZip (EndsInFormula c) lists last_formulas
      → j < length last_formulas
      → (earlier_labels : List ℕ) × (f : Formula) × (slice_get lists j ≡ Some earlier_labels)
      × (slice_get last_formulas j ≡ Some f) × EndsInFormula c earlier_labels f
  end_after_step [] [] j each_ends j_lt_length = absurd (omega arith)
  end_after_step [] (f ∷ fs) j each_ends j_lt_length = absurd each_ends
  end_after_step (x ∷ xs) [] j each_ends j_lt_length = absurd each_ends
  end_after_step (x ∷ xs) (f ∷ fs) zero each_ends j_lt_length = (x, f, refl, refl, each_ends.0)
  end_after_step (x ∷ xs) (f ∷ fs) (suc j) each_ends j_lt_length =
      end_after_step xs fs j each_ends.1 (omega arith)

  pub ends_after_one_more : (lists : List (List ℕ)) (last_formulas : List Formula) (x : List ℕ)
      (f : Formula)
      → AllZip (EndsInFormula c) lists last_formulas → EndsInFormula c x f
      → AllZip (EndsInFormula c) (lists ++ x ∷ []) (last_formulas ++ f ∷ [])
  ends_after_one_more [] [] x f each_ends ends_in_f = (ends_in_f, tt)
  ends_after_one_more [] (g ∷ gs) x f each_ends ends_in_f = absurd each_ends
  ends_after_one_more (y ∷ ys) [] x f each_ends ends_in_f = absurd each_ends
  ends_after_one_more (y ∷ ys) (g ∷ gs) x f each_ends ends_in_f =
      (each_ends.0, ends_after_one_more ys gs x f each_ends.1 ends_in_f)

  -- the entries after steps; `last_formulas` has the last entry after each step so far
  abbrev pub perform_steps : List Formula → List Step → List Formula → Result (List Formula)
      StepFailure
  perform_steps last_formulas [] es = Ok es
  perform_steps last_formulas (s ∷ steps) es =
      proceed (step_entries c s last_formulas es) (length last_formulas)
      (λ out. perform_steps (last_formulas ++ top out ∷ []) steps out)

  -- a step that fails after a forest
  pub record StoppedSteps (lists : List (List ℕ)) (labels_before : List ℕ) (steps : List Step)
      (reason : Reason) : Type 0 where
    pub before : List Step
    pub failing : Step
    pub after : List Step
    pub splits : steps ≡ before ++ failing ∷ after
    pub labels : List ℕ
    pub expansion : Expands c lists labels_before before labels
    pub forest : Trees
    pub derivations : AreDerivations c forest
    pub labels_are : postfix forest ≡ labels
    pub fails : StepFails c failing (formulas forest) reason

  abbrev pub StepsOutcome : List (List ℕ) → List ℕ → List Step → Result (List Formula) StepFailure
      → Type 0
  StepsOutcome lists labels_before steps (Ok out) =
      (all : List ℕ) × Expands c lists labels_before steps all × (forest : Trees) × AreDerivations c
      forest
      × (postfix forest ≡ all) × (formulas forest ≡ out)
  StepsOutcome lists labels_before steps (Err e) = StoppedSteps lists labels_before steps e.reason

  -- a step after a forest is one more tree, or fails
  abbrev pub GrownForest : List (List ℕ) → Trees → Step → Result (List Formula) Reason → Type 0
  GrownForest lists forest s (Ok out) =
      (next : Trees) × AreDerivations c next × Adds c lists (postfix forest) s (postfix next)
      × (formulas next ≡ out) × IsLastFormula next (top out)
  GrownForest lists forest s (Err reason) = StepFails c s (formulas forest) reason

  last_formula_is_top : (forest : Trees) (fs : List Formula) (f : Formula)
      → formulas forest ≡ fs ++ f ∷ []
      → IsLastFormula forest (top (formulas forest))
  last_formula_is_top none [] f formulas_are = cc
  last_formula_is_top none (g ∷ fs) f formulas_are = cc
  last_formula_is_top (more ts l f cs) fs g formulas_are = sym (top_of_appended (formulas ts) f)

  label_grows_forest : (lists : List (List ℕ)) (forest : Trees) (l : ℕ)
      (r : Result (List Formula) Reason)
      → AreDerivations c forest → StepOutcome c (c.referent l) (formulas forest) r
      → GrownForest lists forest (label l) r
  label_grows_forest lists forest l (Err reason) are_derivations outcome = outcome
  label_grows_forest lists forest l (Ok out) are_derivations outcome =
      grind (arith, common_steps, step_grows_forest, last_formula_is_top)

  -- a marked step adds a copy of the last tree of an earlier forest
  marked_step_grows_forest : (lists : List (List ℕ)) (last_formulas : List Formula) (forest : Trees)
      (j : ℕ)
      → AreDerivations c forest → AllZip (EndsInFormula c) lists last_formulas → j < length
      last_formulas
      → GrownForest lists forest (marked j)
      (step_entries c (marked j) last_formulas (formulas forest))
  marked_step_grows_forest lists last_formulas forest j are_derivations each_ends j_lt_length =
      search (rules, arith, end_after_step, copied_tree_grows)
    where
      copied_tree_grows : (earlier_forest : Trees) → AreDerivations c earlier_forest
          → postfix earlier_forest ≡ (end_after_step lists last_formulas j each_ends j_lt_length).0
          → IsLastFormula earlier_forest
          (end_after_step lists last_formulas j each_ends j_lt_length).1
          → GrownForest lists forest (marked j)
          (Ok (formulas forest ++ (end_after_step lists last_formulas j each_ends j_lt_length).1
          ∷ []))
      copied_tree_grows none are_derivations_there labels_there last_formula = absurd last_formula
      copied_tree_grows (more ts l f cs) are_derivations_there labels_there last_formula =
          let earlier = end_after_step lists last_formulas j each_ends j_lt_length in
          let formulas_equal : formulas forest ++ f ∷ [] ≡ formulas forest ++ earlier.1 ∷ [] =
          ap (λ x. formulas forest ++ x ∷ []) last_formula in (
            more forest l f cs,
            search (rules, arith),
            (
              earlier.0,
              postfix cs ++ l ∷ [],
              earlier.2,
              search (rules, arith),
              refl,
            ),
            formulas_equal,
            search (rules, arith, top_of_appended),
          )

  pub good_step_grows_forest : (lists : List (List ℕ)) (last_formulas : List Formula)
      (forest : Trees) (s : Step)
      → AreDerivations c forest → AllZip (EndsInFormula c) lists last_formulas → IsGoodStep c
      (length last_formulas) s
      → GrownForest lists forest s (step_entries c s last_formulas (formulas forest))
  good_step_grows_forest lists last_formulas forest (label l) are_derivations each_ends is_good =
      grind (arith, common_steps, label_grows_forest, step_has_outcome)
  good_step_grows_forest lists last_formulas forest (marked j) are_derivations each_ends is_good =
      search (rules, arith, marked_step_grows_forest)

  -- what the entries after steps mean
  pub steps_have_outcome : (steps : List Step) (lists : List (List ℕ))
      (last_formulas : List Formula)
      (forest : Trees)
      → AreDerivations c forest → AllZip (EndsInFormula c) lists last_formulas
      → AreGoodSteps c (length last_formulas) steps
      → StepsOutcome lists (postfix forest) steps (perform_steps last_formulas steps (formulas
      forest))
  steps_have_outcome [] lists last_formulas forest are_derivations each_ends are_good =
      search (rules, arith)
  steps_have_outcome (s ∷ steps) lists last_formulas forest are_derivations each_ends are_good =
      outcome_by_result (step_entries c s last_formulas (formulas forest))
      (search (rules, arith, good_step_grows_forest))
      (λ next f next_derivations is_last_formula. steps_have_outcome steps
      (lists ++ postfix next ∷ [])
      (last_formulas ++ f ∷ []) next next_derivations
      (search (rules, arith, ends_after_one_more))
      (search (rules, arith, one_more_end)))
    where
      one_more_end : (f : Formula) → suc (length last_formulas) ≡ length (last_formulas ++ f ∷ [])
      one_more_end f = omega (arith, length-append last_formulas (f ∷ []))

      outcome_of_rest : (labels_after : List ℕ) → Adds c lists (postfix forest) s labels_after
          → (r : Result (List Formula) StepFailure)
          → StepsOutcome (lists ++ labels_after ∷ []) labels_after steps r
          → StepsOutcome lists (postfix forest) (s ∷ steps) r
      outcome_of_rest labels_after adds_labels (Ok out) later_outcome = search (rules, arith)
      outcome_of_rest labels_after adds_labels (Err e) later_outcome = record {
        before = s ∷ later_outcome.before;
        failing = later_outcome.failing;
        after = later_outcome.after;
        splits = ap (λ x. s ∷ x) later_outcome.splits;
        labels = later_outcome.labels;
        expansion = search (rules, arith);
        forest = later_outcome.forest;
        derivations = later_outcome.derivations;
        labels_are = later_outcome.labels_are;
        fails = later_outcome.fails;
      }

      outcome_by_result : (r : Result (List Formula) Reason) → GrownForest lists forest s r
          → ((next : Trees) (f : Formula) → AreDerivations c next → IsLastFormula next f
          → StepsOutcome (lists ++ postfix next ∷ []) (postfix next) steps
          (perform_steps (last_formulas ++ f ∷ []) steps (formulas next)))
          → StepsOutcome lists (postfix forest) (s ∷ steps)
          (proceed r (length last_formulas)
          (λ out. perform_steps (last_formulas ++ top out ∷ []) steps out))
      outcome_by_result (Err reason) forest_grown rest_has_outcome =
          record {
            before = [];
            failing = s;
            after = steps;
            splits = refl;
            labels = postfix forest;
            expansion = refl;
            forest = forest;
            derivations = are_derivations;
            labels_are = refl;
            fails = forest_grown;
          }
      outcome_by_result (Ok out) forest_grown rest_has_outcome =
          search (rules, arith, outcome_of_rest)
