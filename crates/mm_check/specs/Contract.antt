-- What the answers of the checker mean.
use Rattle.std.specs.Prelude.{ℕ, ◌≡◌, ◌<◌, Bool, false, ◌==◌, List, Some, slice_get, Decides, ⊤}
use Rattle.std.specs.List.{Contains}
use Rattle.std.specs.Option.{option_map}
use Rattle.std.specs.List.Sorted.{IsStrictlyIncreasing}
use Rattle.mm_spec.specs.Statement.{Statement}
use Rattle.mm_spec.specs.Derivation.{Context, Formula, Trees, is_member}
use Rattle.mm_spec.specs.Frame.{formula_at}
use Rattle.mm_spec.specs.Steps.{Step, label, marked, PlacedStep}
use Rattle.mm_spec.specs.Text.{fault}
use Rattle.mm_spec.specs.Valid.{StepFault, code_of, IsEndCode}
use Rattle.mm_spec.specs.Citation.{IsProof, Cites, context_at}
use Rattle.mm_spec.specs.Output.{ProofFault, proof_end}
use Rattle.mm_spec.specs.Laws.Stack.{IsCompleteReferent}
use Rattle.mm_database.specs.Database.{end_at}
use Rattle.mm_machine.specs.State.{reason_of}
use Rattle.mm_machine.specs.declared.reason.StepRefused.{StepRefused}
use Rattle.mm_machine.specs.declared.reason.StepRefused.TheVariants.{Fault as Reasoned}
use Rattle.mm_machine.specs.declared.reason.StepRefused.TheVariants.{Memory as Full}
use Rattle.mm_check.specs.declared.checker.CheckRefused.{CheckRefused}
use Rattle.mm_check.specs.declared.checker.CheckRefused.TheVariants.{Fault as Faulty, Memory}

-- a theorem, and the assertions that its proof cites
pub record TheoremCitations : Type 0 where
  pub theorem : ℕ
  pub cites : List ℕ

abbrev pub theorem_citations : ℕ → List ℕ → TheoremCitations
theorem_citations t cites = record { theorem = t; cites = cites }

-- the theorem has a proof, and these are the assertions that it cites, in ascending order, each
-- once
pub record IsChecked (db : List Statement) (by_essential : Bool) (t : ℕ)
    (cites : List ℕ) : Type 0 where
  pub derivation : Trees
  pub is_proof : IsProof db t derivation
  pub cites_rise : IsStrictlyIncreasing cites
  pub cites_are_exact : (a : ℕ) → Decides (is_member cites a) (Cites db by_essential t a)

-- if the refusal is a fault, it is the fault of the theorem's proof
abbrev pub IsCheckRefusal : List Statement → ℕ → CheckRefused → Type 0
IsCheckRefusal db t (Faulty f) = ProofFault db t (proof_end (slice_get db t)) f
IsCheckRefusal db t Memory = ⊤

-- if the refusal is a fault, it is the fault of one of these steps
abbrev pub IsRefusalOfSomeStep : List Statement → ℕ → List PlacedStep → CheckRefused → Type 0
IsRefusalOfSomeStep db t steps (Faulty f) = StepFault (context_at db t) steps f
IsRefusalOfSomeStep db t steps Memory = ⊤

-- if the refusal is a fault, it is that of the end of the theorem's proof, after which there are
-- these entries
abbrev pub IsEndRefusal : List Statement → ℕ → List Formula → CheckRefused → Type 0
IsEndRefusal db t stack (Faulty f) =
    (option_map end_at (slice_get db t) ≡ Some f.at) × IsEndCode stack (formula_at db t) f.code
IsEndRefusal db t stack Memory = ⊤

-- the refusal of a proof, a step of which was refused at the place
abbrev pub refusal_at : ℕ → StepRefused → CheckRefused
refusal_at at (Reasoned reason) = Faulty (fault at (code_of (reason_of reason)))
refusal_at at Full = Memory

-- if the step is a label, it is less than the number
abbrev pub IsLabelBelow : Step → ℕ → Type 0
IsLabelBelow (label l) n = l < n
IsLabelBelow (marked j) n = ⊤

-- whether a step has the label
abbrev pub is_labelled_step : Step → ℕ → Bool
is_labelled_step (label l) a = a == l
is_labelled_step (marked j) a = false

-- the step is a label that stands for something, or a marked step whose formula is kept
abbrev pub IsReadyStep : Context → List ℕ → Step → Type 0
IsReadyStep c marks (label l) = IsCompleteReferent c (c.referent l)
IsReadyStep c marks (marked j) = Contains marks j
