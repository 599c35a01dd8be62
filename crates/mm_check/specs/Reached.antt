-- What holds after the steps so far.
use Rattle.std.specs.Prelude.{ℕ, ◌≡◌, ◌<◌, true, ◌&&◌, List, [], ◌++◌, map, take, length, All, Some}
use Rattle.std.specs.Prelude.{slice_get, IsTrue}
use Rattle.std.specs.List.{AllByRecursion, AllZip, Contains}
use Rattle.mm_spec.specs.Derivation.{Formula, Trees, formulas, postfix, AreDerivations, is_member}
use Rattle.mm_spec.specs.Steps.{Step, PlacedStep}
use Rattle.mm_spec.specs.Valid.{Expands}
use Rattle.mm_spec.specs.Laws.Stack.{EndsInFormula}
use Rattle.mm_spec.specs.Statement.{Statement}
use Rattle.mm_spec.specs.Citation.{context_at, steps_at, reading_faults_at}
use Rattle.mm_spec.specs.Output.{is_theorem_at}
use Rattle.mm_spec.specs.Laws.Complete.{AreComplete}
use Rattle.mm_spec.specs.Laws.Stack.{AreGoodSteps}
use Rattle.mm_steps.specs.TheoremSteps.{is_marked}
use Rattle.mm_machine.specs.State.{MachineState}
use Rattle.mm_rule.specs.Assertions.{is_assertion_at}

-- After the steps there is a forest of derivations: its formulas are the entries, the ends are the
-- last formulas of the earlier forests, and its assertions were noted.
pub record IsReached (db : List Statement) (t : ℕ) (steps_so_far : List Step)
    (stack ends : List Formula)
    (noted : List ℕ) : Type 0 where
  pub forest : Trees
  pub are_derivations : AreDerivations (context_at db t) forest
  pub entries_are : formulas forest ≡ stack
  pub lists : List (List ℕ)
  pub lists_end_in_formulas : AllZip (EndsInFormula (context_at db t)) lists ends
  pub expands_from_start : (later_steps : List Step) (labels : List ℕ)
      → Expands (context_at db t) lists (postfix forest) later_steps labels
      → Expands (context_at db t) [] [] (steps_so_far ++ later_steps) labels
  pub lists_are_within : AllByRecursion
      (λ l. (a : ℕ) → is_member l a ≡ true → is_member (postfix forest) a ≡ true) lists
  pub noted_are : (a : ℕ)
      → is_member noted a ≡ (is_member (postfix forest) a && is_assertion_at db a)

-- the steps without their places
abbrev pub steps_of : List PlacedStep → List Step
steps_of steps = map (λ s. s.step) steps

-- the marked formulas are those with which their steps ended
abbrev pub AreEndFormulas : List Formula → List ℕ → List Formula → Type 0
AreEndFormulas ends marks formulas = AllZip (λ j f. slice_get ends j ≡ Some f) marks formulas

-- The state after the first `i` steps: the entries, and the marked ones among these steps with
-- their formulas.
pub record HasRun (db : List Statement) (t : ℕ) (steps : List PlacedStep) (i : ℕ) (s : MachineState)
    (noted : List ℕ) : Type 0 where
  pub ends : List Formula
  pub end_count_is : length ends ≡ i
  pub is_reached : IsReached db t (steps_of (take i steps)) s.stack ends noted
  pub marks_agree : AreEndFormulas ends s.marks s.formulas
  pub marks_lt_i : All (λ j. j < i) s.marks
  pub marked_are_kept : (j : ℕ) → j < i → is_marked steps j ≡ true → Contains s.marks j

-- the steps are those of the theorem's proof, which was read without a fault
pub record AreStepsOf (db : List Statement) (t : ℕ) (steps : List PlacedStep) : Type 0 where
  pub is_complete : AreComplete db
  pub is_theorem : IsTrue (is_theorem_at db t)
  pub steps_are : steps ≡ steps_at db t
  pub no_reading_faults : reading_faults_at db t ≡ []
  pub are_good : AreGoodSteps (context_at db t) 0 (steps_of steps)
