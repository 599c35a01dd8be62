-- The steps as they are stored.
use Rattle.std.specs.Prelude.{ℕ, ◌≡◌, false, List, get_or, map}
use Rattle.mm_spec.specs.Steps as spec
use Rattle.mm_spec.specs.Steps.{PlacedStep, placed, label, marked}
use Rattle.mm_steps.specs.declared.step_list.Placed.{Placed}
use Rattle.mm_steps.specs.declared.step_list.StepKind.{StepKind}
use Rattle.mm_steps.specs.declared.step_list.StepKind.TheVariants.{Label, Marked}
use Rattle.mm_steps.specs.TheoremSteps.{is_marked}

-- the step of this kind that refers to the statement or the step n
abbrev pub step_by : StepKind → ℕ → spec.Step
step_by Label n = label n
step_by Marked n = marked n

-- the step that a stored one stands for
abbrev pub placed_of : Placed → PlacedStep
placed_of p = placed p.at (step_by p.kind p.number)

-- the steps that the stored ones stand for
abbrev pub placed_steps : List Placed → List PlacedStep
placed_steps ps = map placed_of ps

-- what is taken for a step past the last one
abbrev pub no_step : Placed
no_step = record { at = 0; number = 0; kind = Label; is_marked = false }

-- each step's flag says whether the step is marked, and past the last step none is
abbrev pub TellWhichAreMarked : List Placed → Type 0
TellWhichAreMarked ps = (i : ℕ) → (get_or ps i no_step).is_marked ≡ is_marked (placed_steps ps) i
