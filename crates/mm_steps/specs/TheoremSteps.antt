-- The steps of a proof that was read.
use Rattle.std.specs.Prelude.{ℕ, ◌<◌, ◌==◌, Bool, false, List, get_or}
use Rattle.std.specs.List.{list_any}
use Rattle.mm_spec.specs.Steps as spec
use Rattle.mm_spec.specs.Steps.{PlacedStep, placed, label, marked}
use Rattle.mm_steps.specs.declared.step_list.Step.{Step}
use Rattle.mm_steps.specs.declared.step_list.Step.TheVariants.{Label, Marked}

-- the steps of a proof, and the number of its theorem's statement
pub record TheoremSteps : Type 0 where
  pub theorem : ℕ
  pub steps : List PlacedStep

-- theorem `t` has these steps
abbrev pub theorem_steps : ℕ → List PlacedStep → TheoremSteps
theorem_steps t steps = record { theorem = t; steps = steps }

-- the step of the definitions that a step of the code stands for
abbrev pub as_step : Step → spec.Step
as_step (Label k) = label k
as_step (Marked j) = marked j

-- step i, or an arbitrary one if there are not so many
abbrev pub step_at : List PlacedStep → ℕ → PlacedStep
step_at steps i = get_or steps i (placed 0 (label 0))

-- whether a step repeats the subproof that step `i` ended
abbrev pub repeats : ℕ → spec.Step → Bool
repeats i (label l) = false
repeats i (marked j) = i == j

-- whether some step repeats the subproof that step `i` ended
abbrev pub is_marked : List PlacedStep → ℕ → Bool
is_marked steps i = list_any (λ s. repeats i s.step) steps

-- a marked step repeats the subproof of one of the `n` steps before it
abbrev pub IsEarlier : spec.Step → ℕ → Type 0
IsEarlier (label l) n = Unit {0}
IsEarlier (marked j) n = j < n
