-- What a checker holds, and how far it is with a proof.
use Rattle.std.specs.Prelude.{◌≡◌, ℕ, ◌<◌, ◌&&◌, ◌||◌, Bool, List, [], ◌∷◌, ◌++◌, length, Ok}
use Rattle.std.specs.Prelude.{get_or, ⊤}
use Rattle.mm_spec.specs.Statement.{Statement}
use Rattle.mm_spec.specs.Derivation.{Formula, is_member}
use Rattle.mm_spec.specs.Steps.{Step, label, marked, PlacedStep}
use Rattle.mm_spec.specs.Limits.{formula_limit}
use Rattle.mm_spec.specs.Valid.{too_long}
use Rattle.mm_spec.specs.Frame.{formula_at}
use Rattle.mm_spec.specs.Citation.{context_at}
use Rattle.mm_spec.specs.Laws.Complete.{AreComplete}
use Rattle.mm_spec.specs.Laws.Stack.{step_entries, top}
use Rattle.mm_rule.specs.Assertions.{is_assertion_at}
use Rattle.mm_rules.specs.Rules.{RuleLists, AreRules}
use Rattle.mm_machine.specs.DisjointCache.{KnownPairs, AreDisjointAt}
use Rattle.mm_machine.specs.Masks.{AreVariablesOf}
use Rattle.mm_machine.specs.State.{MachineState, machine_state, reason_of}
use Rattle.mm_machine.specs.Applied.{IsStepRefusalOf}
use Rattle.mm_machine.specs.declared.reason.StepRefused.{StepRefused}
use Rattle.mm_machine.specs.declared.reason.StepRefused.TheVariants.{Fault, Memory}
use Rattle.mm_check.specs.Contract.{is_labelled_step}
use Rattle.mm_check.specs.Reached.{HasRun, AreEndFormulas, AreStepsOf}

-- a checker: the entries of its proof in progress, the rules that it borrows, the assertions that
-- it noted, the pairs of symbols that it knows to be disjoint, and statements with the indices of
-- marks whose formulas they have
pub record CheckerState : Type 0 where
  pub machine : MachineState
  pub rules : RuleLists
  pub noted : List ℕ
  pub cache : KnownPairs
  pub kept : List (ℕ × ℕ)

abbrev pub checker_state : MachineState → RuleLists → List ℕ → KnownPairs → List (ℕ × ℕ)
    → CheckerState
checker_state machine rules noted cache kept =
    record { machine = machine; rules = rules; noted = noted; cache = cache; kept = kept }

-- the variables and the rules are those of the database, whose frames are complete
pub record AreOfDatabase (db : List Statement) (variable_flags : List Bool) (rules : RuleLists)
    : Type 0 where
  pub are_variables : AreVariablesOf db variable_flags
  pub rules_are : AreRules db rules
  pub frames_are_complete : AreComplete db

-- the checker is made for the theorems of the database
abbrev pub IsMadeFor : List Statement → CheckerState → Type 0
IsMadeFor db c = AreOfDatabase db c.machine.variable_flags c.rules

-- the mark with the index that each statement has is there, and its formula is the statement's
abbrev pub AreKept : List Statement → (marks : List ℕ) → (formulas : List Formula)
    → List (ℕ × ℕ) → Type 0
AreKept db marks formulas kept =
    (i : ℕ) → i < length kept
    → ((get_or kept i (0, 0)).1 < length marks)
    × (get_or formulas (get_or kept i (0, 0)).1 [] ≡ formula_at db (get_or kept i (0, 0)).0)

-- the variables and the rules are those of the database, the pairs are disjoint at the theorem, and
-- the formulas that are kept are those of their statements
pub record IsAtTheorem (db : List Statement) (t : ℕ) (c : CheckerState) : Type 0 where
  pub made_for : IsMadeFor db c
  pub theorem_lt_length : t < length db
  pub pairs_are_disjoint : AreDisjointAt db t c.cache
  pub are_kept : AreKept db c.machine.marks c.machine.formulas c.kept

-- the step has pushed the formula of its statement as it stands
abbrev pub IsPushedWhole : List Statement → Step → List Formula → Type 0
IsPushedWhole db (label s) stack = top stack ≡ formula_at db s
IsPushedWhole db (marked j) stack = ⊥

-- a formula isn't pushed: there is no memory, or it is too long
abbrev pub IsPushRefusal : Formula → StepRefused → Type 0
IsPushRefusal f Memory = ⊤
IsPushRefusal f (Fault reason) = (reason_of reason ≡ too_long) × (formula_limit < length f)

-- the checker with one formula more on its stack
abbrev pub with_formula : Formula → CheckerState → CheckerState
with_formula f c =
    checker_state (machine_state (c.machine.stack ++ f ∷ []) c.machine.marks c.machine.formulas
    c.machine.variable_flags) c.rules c.noted c.cache c.kept

-- the checker has performed the first `i` steps of the theorem's proof
pub record HasPerformed (db : List Statement) (t : ℕ) (steps : List PlacedStep) (i : ℕ)
    (c : CheckerState) : Type 0 where
  pub is_at_theorem : IsAtTheorem db t c
  pub are_steps : AreStepsOf db t steps
  pub has_run : HasRun db t steps i c.machine c.noted

-- one step leads from the checker to the next: its entries are those after the step, and its
-- assertion is noted
pub record Performs (db : List Statement) (t : ℕ) (step : Step) (old new : CheckerState)
    : Type 0 where
  pub entries_are : (ends : List Formula) → AreEndFormulas ends old.machine.marks
      old.machine.formulas
      → step_entries (context_at db t) step ends old.machine.stack ≡ Ok new.machine.stack
  pub marks_stay : new.machine.marks ≡ old.machine.marks
  pub formulas_stay : new.machine.formulas ≡ old.machine.formulas
  pub has_entry : 0 < length new.machine.stack
  pub noted_are : (x : ℕ)
      → is_member new.noted x
      ≡ (is_member old.noted x || (is_labelled_step step x && is_assertion_at db x))

-- the step is refused for a reason for which it fails
abbrev pub IsStepRefusal : List Statement → ℕ → Step → CheckerState → StepRefused → Type 0
IsStepRefusal db t step c e =
    (ends : List Formula) → AreEndFormulas ends c.machine.marks c.machine.formulas
    → IsStepRefusalOf e (step_entries (context_at db t) step ends c.machine.stack)
