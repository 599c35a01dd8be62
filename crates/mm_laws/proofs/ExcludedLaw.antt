-- Steps of which one fails have no derivation.
use Rattle.std.proofs.Common.{◌≡◌, ℕ, List, [], ◌∷◌, ◌++◌, refl, ap, ◌∙◌, subst, append_assoc}
use Rattle.mm_spec.specs.Derivation.{Context, formulas, postfix}
use Rattle.mm_spec.specs.Steps.{Step, label, marked}
use Rattle.mm_spec.specs.Valid.{Reason, StepFails, Expands}
use Rattle.mm_spec.specs.Laws.Complete.{HasCompleteFrame}
use Rattle.mm_spec.proofs.StackStepsLaw.{AreGood}
use Rattle.mm_spec.proofs.StepsLaw.{forest_labels_are_good, StoppedSteps}
use Rattle.mm_spec.proofs.CheckedLaw.{expansion_grows, expansions_are_equal}
use Rattle.mm_laws.proofs.StackRunLaw.{IsPostfixOfForest, stopped_no_forest}

module _ (c : Context) (all_complete : (l : ℕ) → HasCompleteFrame c (c.referent l)) where
  -- the expansion of a front
  expansion_splits : (front steps : List Step) (lists : List (List ℕ)) (labels all_labels : List ℕ)
      → Expands c lists labels (front ++ steps) all_labels
      → (mid : List ℕ) × (later_lists : List (List ℕ)) × Expands c lists labels front mid
      × Expands c later_lists mid steps all_labels
  expansion_splits [] steps lists labels all_labels expands = (labels, lists, refl, expands)
  expansion_splits (s ∷ front) steps lists labels all_labels expands =
      let rest_splits =
      expansion_splits front steps (lists ++ expands.0 ∷ []) expands.0 all_labels expands.2 in
      (rest_splits.0, rest_splits.1, (expands.0, expands.1, rest_splits.2), rest_splits.3)

  -- a step that fails leaves no forest for the whole
  pub excludes : (steps : List Step) (reason : Reason) (all_labels : List ℕ)
      → StoppedSteps c [] [] steps reason → Expands c [] [] steps all_labels
      → ¬ IsPostfixOfForest c all_labels
  excludes steps reason all_labels stopped expands forest = excluded_by_step stopped.failing
      stopped.fails split.3
    where
      split : (mid : List ℕ) × (later_lists : List (List ℕ)) × Expands c [] [] stopped.before mid
          × Expands c later_lists mid (stopped.failing ∷ stopped.after) all_labels
      split =
          expansion_splits stopped.before (stopped.failing ∷ stopped.after) [] [] all_labels
          (subst (λ x. Expands c [] [] x all_labels) stopped.splits expands)

      excluded_by_step : (first_step : Step) → StepFails c first_step (formulas stopped.forest)
          reason
          → Expands c split.1 split.0 (first_step ∷ stopped.after) all_labels → ⊥
      excluded_by_step (marked j) fails rest_expansion = fails
      excluded_by_step (label l) fails rest_expansion =
          let extension = expansion_grows c stopped.after (split.1 ++ rest_expansion.0 ∷ [])
          rest_expansion.0 all_labels rest_expansion.2 in
          let all_labels_are : all_labels ≡ split.0 ++ l ∷ extension.0 =
          extension.1 ∙ ap (λ z. z ++ extension.0) rest_expansion.1
          ∙ append_assoc split.0 (l ∷ []) extension.0 in
          let labels_are : postfix stopped.forest ≡ split.0 =
          stopped.labels_are
          ∙ expansions_are_equal c all_complete stopped.before [] [] stopped.labels split.0
          stopped.expansion split.2 in
          stopped_no_forest c all_labels reason
          (subst (AreGood c) forest.2 (forest_labels_are_good c all_complete forest.0 forest.1))
          (record {
            before = split.0;
            label = l;
            after = extension.0;
            splits = all_labels_are;
            reached = stopped.forest;
            derivations = stopped.derivations;
            labels = labels_are;
            fails = fails;
          }) forest
