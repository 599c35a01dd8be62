-- The steps of a proof (Metamath book, "Proof Verification" and "Compressed Proofs").
use Rattle.std.specs.Prelude.{ℕ}

-- A step of a proof: a label, given by the number of its statement, or the subproof that an earlier
-- step ended, given by the number of that step.
pub data Step : Type 0 where
  label : ℕ → Step
  marked : ℕ → Step

-- a step with its place in the text
pub record PlacedStep : Type 0 where
  pub at : ℕ
  pub step : Step

abbrev pub placed : ℕ → Step → PlacedStep
placed at s = record { at = at; step = s }
