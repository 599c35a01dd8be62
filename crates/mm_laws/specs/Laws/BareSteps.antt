-- The steps of a proof without their places. (This project's own.)
use Rattle.std.specs.Prelude.{ℕ, List, map}
use Rattle.mm_spec.specs.Text.{Token}
use Rattle.mm_spec.specs.Statement.{Statement}
use Rattle.mm_spec.specs.Steps.{Step}
use Rattle.mm_spec.specs.Proof.{steps}

-- the steps of a proof without their places
abbrev pub bare_steps : List Statement → ℕ → List Token → List Step
bare_steps db k ts = map (λ s. s.step) (steps db k ts)
