-- The lines of the proofs and of the statements of a database.
use Rattle.std.specs.Prelude.{◌≡◌, ◌<◌, ⊤, true, All, List, Option, length, map}
use Rattle.mm_spec.specs.Text.{Bytes}
use Rattle.mm_spec.specs.Statement.{Statement}
use Rattle.mm_spec.specs.Derivation.{Pair}
use Rattle.mm_spec.specs.Frame.{symbol_names}
use Rattle.mm_spec.specs.Assertion.{statement_lines}
use Rattle.mm_spec.specs.Steps.{Step, label, marked}
use Rattle.mm_spec.specs.Report.{ToldLines}
use Rattle.mm_spec.specs.ProofLine.{proof_steps}
use Rattle.mm_spec.specs.Output.{is_open_at, proof_lines, theorems}
use Rattle.mm_spec.specs.Request.{Request}
use Rattle.mm_database.specs.Database.{Contents}
use Rattle.mm_tell.specs.Dummies.{DummyLists, dummies_before}

-- the lines of the proofs of a database, and of its statements or those with the typecode if one is
-- chosen
abbrev pub told_of : Contents → Option Bytes → ToldLines
told_of d only = record {
  proofs = proof_lines d.statements;
  statements = statement_lines d.statements (is_open_at d.read d.with_open) only;
}

-- where the statements are requested, these are their dummy variables
abbrev pub AreDummiesFor : Request → Contents → DummyLists → Type 0
AreDummiesFor request d dummy_lists =
    request.sections.statements ≡ true
    → dummy_lists ≡ dummies_before d.statements request.only (length d.statements)

-- where the proofs are requested, these are their steps
abbrev pub AreStepsFor : Request → Contents → List (List Step) → Type 0
AreStepsFor request d step_lists =
    request.sections.proofs ≡ true
    → step_lists ≡ map (proof_steps d.statements) (theorems d.statements)

-- a step that is a label is that of a statement of the database
abbrev pub IsStepWithin : List Statement → Step → Type 0
IsStepWithin db (label j) = j < length db
IsStepWithin db (marked i) = ⊤

abbrev pub AreStepsWithin : List Statement → List Step → Type 0
AreStepsWithin db steps = All (IsStepWithin db) steps

-- the pairs are of symbols of the database
abbrev pub ArePairsOf : List Statement → List Pair → Type 0
ArePairsOf db ps =
    All (λ p. (p.low < length (symbol_names db)) × (p.high < length (symbol_names db))) ps
