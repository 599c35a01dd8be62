-- The state after one step more.
use Rattle.std.proofs.lemmas.Grind.{common_steps}
use Rattle.std.proofs.Common.{Result, OnOk, Ok, Err, ◌≡◌, ℕ, zero, suc, ◌+◌, ◌<◌, inl, inr, Bool}
use Rattle.std.proofs.Common.{true, false, List, [], ◌∷◌, ◌++◌, length, take, get_or, Some}
use Rattle.std.proofs.Common.{refl, sym, ap, ◌∙◌, subst}
use Rattle.std.proofs.Common.{arith, All, slice_get, length-append, true≢false, eq-eqb}
use Rattle.std.specs.List.{Contains}
use Rattle.std.proofs.lemmas.List.Elements.{All-push, All-weaker, All-nil, Contains-push}
use Rattle.std.proofs.lemmas.List.Elements.{Contains-append_left}
use Rattle.std.proofs.lemmas.List.Folds.{list_any_at}
use Rattle.std.proofs.lemmas.Bool.{cases_lt}
use Rattle.mm_spec.specs.Derivation.{Formula}
use Rattle.mm_spec.specs.Steps.{Step, label, marked, PlacedStep}
use Rattle.mm_spec.specs.Statement.{Statement}
use Rattle.mm_spec.specs.Citation.{context_at}
use Rattle.mm_spec.specs.Laws.Stack.{IsGoodStep, step_entries, top}
use Rattle.mm_steps.specs.TheoremSteps.{step_at, is_marked}
use Rattle.mm_machine.specs.State.{MachineState, machine_state, with_mark, reason_of}
use Rattle.mm_machine.specs.declared.reason.StepRefused.{StepRefused}
use Rattle.mm_machine.specs.declared.reason.StepRefused.TheVariants.{Fault, Memory}
use Rattle.mm_check.specs.Contract.{IsReadyStep, IsRefusalOfSomeStep, refusal_at}
use Rattle.mm_check.specs.Checker.{CheckerState, IsAtTheorem, HasPerformed, Performs}
use Rattle.mm_check.specs.Checker.{IsStepRefusal}
use Rattle.mm_check.specs.Reached.{IsReached, HasRun, AreEndFormulas, steps_of}
use Rattle.mm_check.proofs.ReachLaw.{no_steps_are_reached, reached_after_step, take_step}
use Rattle.mm_check.proofs.ReachLaw.{step_at_is_good, failing_step_refuses}

get_of_front : (ends later : List Formula) (j : ℕ) (f : Formula) → slice_get ends j ≡ Some f
    → slice_get (ends ++ later) j ≡ Some f
get_of_front [] later j f ends_at_j = absurd (cc)
get_of_front (x ∷ ends) later zero f ends_at_j = ends_at_j
get_of_front (x ∷ ends) later (suc j) f ends_at_j = get_of_front ends later j f ends_at_j

get_of_last : (ends : List Formula) (f : Formula)
    → slice_get (ends ++ f ∷ []) (length ends) ≡ Some f
get_of_last [] f = refl
get_of_last (x ∷ ends) f = get_of_last ends f

-- the formula of a marked step is what it ended with
pub marked_formula_is : (ends : List Formula) (marks : List ℕ) (formulas : List Formula) (n : ℕ)
    → AreEndFormulas ends marks formulas → n < length marks
    → slice_get ends (get_or marks n 0) ≡ Some (get_or formulas n [])
marked_formula_is ends [] formulas n are_end_formulas n_lt_length = absurd (omega arith)
marked_formula_is ends (j ∷ marks) [] n are_end_formulas n_lt_length = absurd are_end_formulas
marked_formula_is ends (j ∷ marks) (f ∷ formulas) zero are_end_formulas n_lt_length = cc
marked_formula_is ends (j ∷ marks) (f ∷ formulas) (suc n) are_end_formulas n_lt_length =
    marked_formula_is ends marks formulas n are_end_formulas.1 (omega arith)

end_formulas_append : (ends later : List Formula) (marks : List ℕ) (formulas : List Formula)
    → AreEndFormulas ends marks formulas → AreEndFormulas (ends ++ later) marks formulas
end_formulas_append ends later [] [] are_end_formulas = tt
end_formulas_append ends later [] (f ∷ formulas) are_end_formulas = absurd are_end_formulas
end_formulas_append ends later (j ∷ marks) [] are_end_formulas = absurd are_end_formulas
end_formulas_append ends later (j ∷ marks) (f ∷ formulas) are_end_formulas =
    grind (
      arith,
      common_steps,
      get_of_front,
      (end_formulas_append ends later marks formulas are_end_formulas.1),
    )

end_formulas_push : (ends : List Formula) (marks : List ℕ) (formulas : List Formula) (i : ℕ) (f :
    Formula) → AreEndFormulas ends marks formulas → slice_get ends i ≡ Some f
    → AreEndFormulas ends (marks ++ i ∷ []) (formulas ++ f ∷ [])
end_formulas_push ends [] [] i f are_end_formulas ends_at_i = (ends_at_i, tt)
end_formulas_push ends [] (g ∷ formulas) i f are_end_formulas ends_at_i = absurd are_end_formulas
end_formulas_push ends (j ∷ marks) [] i f are_end_formulas ends_at_i = absurd are_end_formulas
end_formulas_push ends (j ∷ marks) (g ∷ formulas) i f are_end_formulas ends_at_i =
    (are_end_formulas.0, end_formulas_push ends marks formulas i f are_end_formulas.1 ends_at_i)

-- a step that takes up an earlier one marks it
repeated_step_is_marked : (steps : List PlacedStep) (i j : ℕ) → i < length steps
    → (step_at steps i).step ≡ marked j → is_marked steps j ≡ true
repeated_step_is_marked steps i j i_lt_length is_marked_j =
    grind (arith, common_steps, list_any_at, eq-eqb)

module _ (db : List Statement) (t : ℕ) (steps : List PlacedStep) (i : ℕ) (c : CheckerState)
    (has_performed : HasPerformed db t steps i c) (i_lt_length : i < length steps) (a : Step)
    (a_is : a ≡ (step_at steps i).step) where
  good_step : IsGoodStep (context_at db t) (length has_performed.has_run.ends) a
  good_step =
      step_at_is_good (context_at db t) steps i (length has_performed.has_run.ends) a i_lt_length
      has_performed.are_steps.are_good has_performed.has_run.end_count_is a_is

  -- the step can be made
  pub step_is_ready : IsReadyStep (context_at db t) c.machine.marks a
  step_is_ready = is_ready a a_is good_step
    where
      is_ready : (s : Step) → s ≡ (step_at steps i).step
          → IsGoodStep (context_at db t) (length has_performed.has_run.ends) s
          → IsReadyStep (context_at db t) c.machine.marks s
      is_ready (label l) a_is is_good = is_good
      is_ready (marked j) a_is is_good =
          has_performed.has_run.marked_are_kept j
          (omega (arith, is_good, has_performed.has_run.end_count_is))
          (repeated_step_is_marked steps i j i_lt_length (sym a_is))

  -- the fault of a step that was refused
  pub refused_step_refuses : (at : ℕ) (refusal : StepRefused) → at ≡ (step_at steps i).at
      → IsStepRefusal db t a c refusal → IsRefusalOfSomeStep db t steps (refusal_at at refusal)
  refused_step_refuses at Memory place_is is_step_refusal = tt
  refused_step_refuses at (Fault reason) place_is is_step_refusal =
      rw place_is (failing_step_refuses db t steps i c.machine.stack has_performed.has_run.ends
      c.noted (reason_of reason) i_lt_length has_performed.has_run.is_reached
      (subst (IsGoodStep (context_at db t) (length has_performed.has_run.ends)) a_is good_step)
      (subst (λ z. step_entries (context_at db t) z has_performed.has_run.ends c.machine.stack ≡ Err
      (reason_of reason)) a_is (is_step_refusal has_performed.has_run.ends
      has_performed.has_run.marks_agree)))

  -- what is kept after the step
  has_run_after_step : (d : CheckerState) (m : MachineState) (b : Bool)
      → (is_marked steps i ≡ true → b ≡ true) → Performs db t a c d
      → m ≡ with_mark b i d.machine → HasRun db t steps (i + 1) m d.noted
  has_run_after_step d m b is_b performs m_is =
      subst (λ o. HasRun db t steps (i + 1) o d.noted) (sym m_is) (has_run_with b is_b)
    where
      ends : List Formula
      ends = has_performed.has_run.ends ++ top d.machine.stack ∷ []

      end_count_is : length ends ≡ i + 1
      end_count_is =
          omega (
            arith,
            has_performed.has_run.end_count_is,
            length-append has_performed.has_run.ends
                (top d.machine.stack ∷ []),
          )

      is_reached : IsReached db t (steps_of (take (i + 1) steps)) d.machine.stack ends d.noted
      is_reached =
          rw (take_step steps i i_lt_length, ← a_is) (reached_after_step db t
          (steps_of (take i steps)) c.machine.stack has_performed.has_run.ends c.noted a
          d.machine.stack d.noted has_performed.has_run.is_reached good_step (performs.entries_are
          has_performed.has_run.ends has_performed.has_run.marks_agree) performs.noted_are)

      marks_agree : AreEndFormulas ends d.machine.marks d.machine.formulas
      marks_agree =
          rw (performs.marks_stay, performs.formulas_stay) (end_formulas_append
          has_performed.has_run.ends (top d.machine.stack ∷ []) c.machine.marks c.machine.formulas
          has_performed.has_run.marks_agree)

      marks_lt_i : All (λ j. j < i + 1) d.machine.marks
      marks_lt_i =
          rw performs.marks_stay (All-weaker (λ j. j < i) (λ j. j < i + 1) (λ j j_lt_i.
          omega (arith, j_lt_i)) c.machine.marks has_performed.has_run.marks_lt_i)

      ends_at_i : slice_get ends i ≡ Some (top d.machine.stack)
      ends_at_i =
          subst (λ n. slice_get ends n ≡ Some (top d.machine.stack))
          has_performed.has_run.end_count_is
          (get_of_last has_performed.has_run.ends (top d.machine.stack))

      earlier_is_kept : (j : ℕ) → j < i → is_marked steps j ≡ true → Contains d.machine.marks j
      earlier_is_kept j j_lt_i is_marked_j = subst (λ z. Contains z j) (sym performs.marks_stay)
          (has_performed.has_run.marked_are_kept j j_lt_i is_marked_j)

      has_run_with : (b : Bool) → (is_marked steps i ≡ true → b ≡ true)
          → HasRun db t steps (i + 1) (with_mark b i d.machine) d.noted
      has_run_with false not_marked = record {
        ends = ends;
        end_count_is = end_count_is;
        is_reached = is_reached;
        marks_agree = marks_agree;
        marks_lt_i = marks_lt_i;
        marked_are_kept = λ j j_lt_suc_i is_marked_j. elim (cases_lt
            j i) [
              | inl j_lt_i ↦ earlier_is_kept j j_lt_i is_marked_j
              | inr i_le_j ↦ absurd (true≢false (sym (not_marked (ap (is_marked steps)
                  (omega (arith, i_le_j, j_lt_suc_i)) ∙ is_marked_j))))
            ];
      }
      has_run_with true is_marked_i = record {
        ends = ends;
        end_count_is = end_count_is;
        is_reached = is_reached;
        marks_agree = end_formulas_push ends d.machine.marks d.machine.formulas i (top
            d.machine.stack) marks_agree
            ends_at_i;
        marks_lt_i = All-push (λ j. j < i + 1) d.machine.marks i marks_lt_i (omega arith);
        marked_are_kept = λ j j_lt_suc_i is_marked_j. elim (cases_lt j
            i) [
              | inl j_lt_i ↦ Contains-append_left d.machine.marks (i ∷ []) j
                  (earlier_is_kept j j_lt_i is_marked_j)
              | inr i_le_j ↦ let i_is_j : i ≡ j = omega (arith, i_le_j, j_lt_suc_i) in
                  subst (Contains (d.machine.marks ++ i ∷ [])) i_is_j (Contains-push d.machine.marks
                  i)
            ];
      }

  pub has_performed_after_step : (d e : CheckerState) (b : Bool)
      → (is_marked steps i ≡ true → b ≡ true) → Performs db t a c d
      → e.machine ≡ with_mark b i d.machine → e.noted ≡ d.noted → IsAtTheorem db t e
      → HasPerformed db t steps (i + 1) e
  has_performed_after_step d e b is_b performs machine_is noted_is is_at_theorem = record {
    is_at_theorem = is_at_theorem;
    are_steps = has_performed.are_steps;
    has_run =
        subst (HasRun db t steps (i + 1) e.machine) (sym noted_is)
        (has_run_after_step d e.machine b is_b performs machine_is);
  }

  -- the same where the step is marked, unless there is no memory for that
  pub has_performed_if_marked : {T E : Type 0} (r : Result T E) (d e : CheckerState)
      → Performs db t a c d → OnOk r (e.machine ≡ with_mark true i d.machine) → e.noted ≡ d.noted
      → OnOk r (IsAtTheorem db t e) → OnOk r (HasPerformed db t steps (i + 1) e)
  has_performed_if_marked (Ok x) d e performs machine_is noted_is is_at_theorem =
      has_performed_after_step d e true (λ is_marked_i. refl) performs machine_is noted_is
      is_at_theorem
  has_performed_if_marked (Err x) d e performs machine_is noted_is is_at_theorem = tt

-- no step so far
pub no_step_has_run : (db : List Statement) (t : ℕ) (steps : List PlacedStep) (s : MachineState)
    → (noted : List ℕ) → (w : List Bool)
    → s ≡ machine_state [] [] [] w → noted ≡ [] → HasRun db t steps 0 s noted
no_step_has_run db t steps s noted w s_is noted_is_nil =
    grind (arith, common_steps, no_steps_are_reached, All-nil)
