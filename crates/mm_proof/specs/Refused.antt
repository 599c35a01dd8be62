-- What a refusal promises of the faults of a proof: that it tells the first of them, either by
-- place and code, or as the list has them. And the faults of a word of a normal proof.
use Rattle.std.specs.Prelude.{◌≡◌, ℕ, true, false, List, [], ◌∷◌, Some, bytes_eq, codes, ⊤}
use Rattle.mm_spec.specs.Text.{Token, fault}
use Rattle.mm_spec.specs.declared.Fault.{Fault}
use Rattle.mm_spec.specs.Statement.{Statement}
use Rattle.mm_spec.specs.Lawful.{least}
use Rattle.mm_spec.specs.NormalProof.{proof_label_faults}
use Rattle.mm_spec.specs.declared.Code.TheVariants.{IncompleteProof}
use Rattle.mm_proof.specs.declared.refused.ProofRefused.{ProofRefused}
use Rattle.mm_proof.specs.declared.refused.ProofRefused.TheVariants.{Fault as Faulty, Memory}

-- if the refusal is a fault, it is the first of these
abbrev pub IsProofRefusal : List Fault → ProofRefused → Type 0
IsProofRefusal faults (Faulty f) = least faults ≡ Some f
IsProofRefusal faults Memory = ⊤

-- if the refusal is a fault, these begin with it
abbrev pub StartsWith : List Fault → ProofRefused → Type 0
StartsWith faults (Faulty f) = (more : List Fault) × (faults ≡ f ∷ more)
StartsWith faults Memory = ⊤

-- the fault of a word of a normal proof, if it has one
abbrev pub word_faults : List Statement → ℕ → Token → List Fault
word_faults db k u =
    elim (bytes_eq u.word (codes "?"))
    [ true ↦ fault u.at IncompleteProof ∷ [] | false ↦ proof_label_faults db k u ]
