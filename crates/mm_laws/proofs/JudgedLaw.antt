-- Steps without a reading fault have a derivation of the formula, a step fault or an end fault, and
-- no two of these.
use Rattle.std.proofs.Common.{◌≡◌, ℕ, List, [], ◌∷◌, ◌++◌, map, Result, Ok, Err, refl, sym, ap, ap₂}
use Rattle.std.proofs.Common.{subst, bytes_eq, inl, inr, rules, arith}
use Rattle.std.proofs.lemmas.Slice.Eq.{bytes_eq-Decides}
use Rattle.std.proofs.lemmas.Bool.{cases_Bool}
use Rattle.std.proofs.lemmas.Bool.Decides.{not_from_Decides}
use Rattle.std.proofs.lemmas.Grind.{common_steps}
use Rattle.mm_spec.specs.Text.{fault}
use Rattle.mm_spec.specs.declared.Fault.{Fault}
use Rattle.mm_spec.specs.Derivation.{Formula, Context, Trees, none, more, tree, formulas, postfix}
use Rattle.mm_spec.specs.Derivation.{AreDerivations}
use Rattle.mm_spec.specs.Steps.{Step, PlacedStep}
use Rattle.mm_spec.specs.Valid.{code_of, Expands, ExpandTo, Derives, StepFault, ProofEndFault}
use Rattle.mm_spec.specs.Valid.{IsEndCode}
use Rattle.mm_spec.proofs.StackStepsLaw.{StepFailure}
use Rattle.mm_spec.proofs.StepsLaw.{perform_steps, StoppedSteps, StepsOutcome, steps_have_outcome}
use Rattle.mm_spec.specs.Laws.Stack.{AreGoodSteps}
use Rattle.mm_spec.specs.Laws.Complete.{HasCompleteFrame}
use Rattle.mm_spec.proofs.CheckedLaw.{same_labels_same_forest, expansions_are_equal}
use Rattle.mm_laws.proofs.ExcludedLaw.{excludes}
use Rattle.mm_spec.specs.declared.Code.TheVariants.{NotOneEntry, OtherFormula}

abbrev steps_of : List PlacedStep → List Step
steps_of ps = map (λ p. p.step) ps

-- a split of the steps is one of the placed steps
record PlacedSplit (ps : List PlacedStep) (steps_before : List Step) (step : Step) : Type 0 where
  front : List PlacedStep
  place : ℕ
  back : List PlacedStep
  steps_are : ps ≡ front ++ record { at = place; step = step } ∷ back
  front_is : steps_of front ≡ steps_before

placed_split : (steps_before steps_after : List Step) (step : Step) (ps : List PlacedStep)
    → steps_of ps ≡ steps_before ++ step ∷ steps_after → PlacedSplit ps steps_before step
placed_split [] steps_after step [] steps_are = cc
placed_split [] steps_after step (p ∷ ps) steps_are =
    let steps_equal : p.step ≡ step = cc in
    record {
      front = [];
      place = p.at;
      back = ps;
      steps_are = ap (λ s. record { at = p.at; step = s } ∷ ps) steps_equal;
      front_is = refl;
    }
placed_split (s ∷ steps_before) steps_after step [] steps_are = cc
placed_split (s ∷ steps_before) steps_after step (p ∷ ps) steps_are =
    with_first (cc) (placed_split steps_before steps_after step ps (cc))
  where
    with_first : p.step ≡ s → PlacedSplit ps steps_before step
        → PlacedSplit (p ∷ ps) (s ∷ steps_before) step
    with_first heads_equal split = record {
      front = p ∷ split.front;
      place = split.place;
      back = split.back;
      steps_are = ap (λ x. p ∷ x) split.steps_are;
      front_is = ap₂ (λ x y. x ∷ y) heads_equal split.front_is;
    }

-- the same steps expand to one forest
pub forests_are_equal : (c : Context) → ((l : ℕ) → HasCompleteFrame c (c.referent l))
    → (steps : List Step) (t u : Trees) → AreDerivations c t → AreDerivations c u
    → ExpandTo c steps (postfix t) → ExpandTo c steps (postfix u) → t ≡ u
forests_are_equal c all_complete steps t u derives_t derives_u expansion_t expansion_u =
    search (rules, arith, same_labels_same_forest, expansions_are_equal)

module _ (c : Context) (all_complete : (l : ℕ) → HasCompleteFrame c (c.referent l))
    (ps : List PlacedStep) (formula : Formula) (end : ℕ) where
  -- a derivation of the formula, the fault of a step, or the fault of the end
  pub data Verdict : Type 0 where
    valid : (d : Trees) → Derives c (steps_of ps) formula d → Verdict
    step_fault : (f : Fault) → StepFault c ps f → Verdict
    end_fault : (f : Fault) → ProofEndFault c ps formula end f → Verdict

  -- if no step fails: the one entry is the formula, or the end has a fault
  verdict_at_end : (forest : Trees) → AreDerivations c forest
      → ExpandTo c (steps_of ps) (postfix forest) → Verdict
  verdict_at_end none derives expansion =
      end_fault (fault end NotOneEntry) (record {
        forest = none;
        derivations = derives;
        expansion = expansion;
        code = NotOneEntry;
        fails = refl;
        fault_is = refl;
      })
  verdict_at_end (more (more ts k h bs) l g cs) derives expansion =
      end_fault (fault end NotOneEntry) (record {
        forest = more (more ts k h bs) l g cs;
        derivations = derives;
        expansion = expansion;
        code = NotOneEntry;
        fails = not_one_entry (formulas ts) h g;
        fault_is = refl;
      })
    where
      not_one_entry : (xs : List Formula) (h g : Formula)
          → IsEndCode ((xs ++ h ∷ []) ++ g ∷ []) formula NotOneEntry
      not_one_entry [] h g = refl
      not_one_entry (x ∷ []) h g = refl
      not_one_entry (x ∷ y ∷ xs) h g = refl
  verdict_at_end (more none l g cs) derives expansion = elim (cases_Bool (bytes_eq g formula)) [
    | inl formulas_equal ↦ valid (more none l g cs) (
      l,
      cs,
      ap (λ z. tree l z cs) ((bytes_eq-Decides g formula).0 formulas_equal),
      derives,
      expansion,
    )
    | inr formulas_differ ↦ end_fault (fault end OtherFormula) (record {
      forest = more none l g cs;
      derivations = derives;
      expansion = expansion;
      code = OtherFormula;
      fails = (not_from_Decides _ (bytes_eq-Decides g formula) formulas_differ, refl);
      fault_is = refl;
    })
  ]

  -- steps that are good have one of the three
  pub verdict : AreGoodSteps c 0 (steps_of ps) → Verdict
  verdict are_good =
      verdict_by_result (perform_steps c [] (steps_of ps) [])
      (steps_have_outcome c (steps_of ps) [] [] none tt tt are_good)
    where
      verdict_by_result : (r : Result (List Formula) StepFailure)
          → StepsOutcome c [] [] (steps_of ps) r → Verdict
      verdict_by_result (Ok out) outcome =
          verdict_at_end outcome.2 outcome.3 (subst (λ x. Expands c [] [] (steps_of ps) x)
          (sym outcome.4) outcome.1)
      verdict_by_result (Err e) outcome =
          let split = placed_split outcome.before outcome.after outcome.failing ps outcome.splits in
          step_fault (fault split.place (code_of e.reason)) (record {
            before = split.front;
            failing = record { at = split.place; step = outcome.failing };
            after = split.back;
            splits = split.steps_are;
            forest = outcome.forest;
            derivations = outcome.derivations;
            expansion =
                subst (λ x. Expands c [] [] x (postfix outcome.forest)) (sym split.front_is)
                (subst (λ x. Expands c [] [] outcome.before x)
                (sym outcome.labels_are) outcome.expansion);
            reason = e.reason;
            fails = outcome.fails;
            fault_is = refl;
          })

  pub stopped_steps : (f : Fault) → (step_fault_of_ps : StepFault c ps f)
      → StoppedSteps c [] [] (steps_of ps) step_fault_of_ps.reason
  stopped_steps f step_fault_of_ps = grind (arith, common_steps)

  -- steps from which a derivation of the formula follows have no step fault
  pub no_step_fault : (d : Trees) → Derives c (steps_of ps) formula d → (f : Fault)
      → ¬ StepFault c ps f
  no_step_fault d derives f step_fault_of_ps =
      excludes c all_complete (steps_of ps) step_fault_of_ps.reason (postfix d) (stopped_steps f
      step_fault_of_ps) derives.4 (d, derives.3, refl)

  pub no_both_faults : (f g : Fault) → StepFault c ps f → ¬ ProofEndFault c ps formula end g
  no_both_faults f g step_fault_of_ps end_fault_of_ps =
      excludes c all_complete (steps_of ps) step_fault_of_ps.reason (postfix end_fault_of_ps.forest)
      (stopped_steps f step_fault_of_ps) end_fault_of_ps.expansion
      (end_fault_of_ps.forest, end_fault_of_ps.derivations, refl)

  pub no_end_fault : (d : Trees) → Derives c (steps_of ps) formula d → (f : Fault)
      → ¬ ProofEndFault c ps formula end f
  no_end_fault d derives f end_fault_of_ps = search (rules, arith, forests_are_equal)
