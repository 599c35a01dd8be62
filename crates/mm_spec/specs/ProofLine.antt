-- The line that tells the steps of a theorem's proof (Metamath book, "Proof Verification" and
-- "Compressed Proofs"; how the line is written is this project's own). Bytes by their codes: 42 is
-- `*`, which no label has.
use Rattle.std.specs.Prelude.{ℕ, ◌+◌, List, ◌∷◌, decimal, map}
use Rattle.mm_spec.specs.Statement.{Statement}
use Rattle.mm_spec.specs.Steps.{Step, label, marked}
use Rattle.mm_spec.specs.Citation.{steps_at}
use Rattle.mm_spec.specs.Assertion.{label_at}
use Rattle.mm_spec.specs.Report.{list_line}

-- a step: the label of its statement, or `*` and the number of the step whose subproof it repeats;
-- steps are counted from 1
abbrev pub step_text : List Statement → Step → List ℕ
step_text db (label j) = label_at db j
step_text db (marked i) = 42 ∷ decimal (i + 1)

-- the steps of theorem t's proof, without their places
abbrev pub proof_steps : List Statement → ℕ → List Step
proof_steps db t = map (λ s. s.step) (steps_at db t)

-- the line of theorem t: its label, the number of its proof's steps, and these steps
abbrev pub proof_line : List Statement → ℕ → List ℕ
proof_line db t = list_line (label_at db t) (map (step_text db) (proof_steps db t))
