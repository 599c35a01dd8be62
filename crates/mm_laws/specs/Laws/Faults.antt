-- A theorem is valid, or its proof has one fault. (This project's own.)
use Rattle.std.specs.Prelude.{◌≡◌, ℕ, List, ◌⊎◌, IsTrue, slice_get}
use Rattle.mm_spec.specs.declared.Fault.{Fault}
use Rattle.mm_spec.specs.Statement.{Statement}
use Rattle.mm_spec.specs.Citation.{IsValid}
use Rattle.mm_spec.specs.Output.{ProofFault, proof_end, is_theorem_at}

-- a fault of the proof of statement k
abbrev pub IsFaultOf : List Statement → ℕ → Fault → Type 0
IsFaultOf db k f = ProofFault db k (proof_end (slice_get db k)) f

abbrev pub IsValidOrFaulty : List Statement → ℕ → Type 0
IsValidOrFaulty db k = IsTrue (is_theorem_at db k) → IsValid db k ⊎ ((f : Fault) × IsFaultOf db k f)

abbrev pub ValidHasNoFault : List Statement → ℕ → Type 0
ValidHasNoFault db k = (f : Fault) → IsValid db k → ¬ IsFaultOf db k f

abbrev pub FaultIsUnique : List Statement → ℕ → Type 0
FaultIsUnique db k = (f g : Fault) → IsFaultOf db k f → IsFaultOf db k g → f ≡ g
