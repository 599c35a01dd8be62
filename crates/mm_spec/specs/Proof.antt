-- How the words of a proof are read: as a compressed proof if the first word is `(`, otherwise as a
-- normal proof (Metamath book, "Proof Verification" and "Compressed Proofs").
use Rattle.std.specs.Prelude.{ℕ, true, false, List, [], ◌∷◌, bytes_eq, codes}
use Rattle.mm_spec.specs.Text.{Token, Fault}
use Rattle.mm_spec.specs.Statement.{Statement}
use Rattle.mm_spec.specs.Steps.{PlacedStep}
use Rattle.mm_spec.specs.NormalProof.{normal_steps, normal_faults}
use Rattle.mm_spec.specs.CompressedProof.{bracketed, compressed_faults, compressed_steps}

-- the faults of reading the words of the proof of statement k, whose `$.` is at `end`
abbrev pub reading_faults : List Statement → ℕ → ℕ → List Token → List Fault
reading_faults db k end [] = normal_faults db k end []
reading_faults db k end (t ∷ ts) = elim (bytes_eq t.word (codes "("))
    [ true ↦ compressed_faults db k end (bracketed ts) | false ↦ normal_faults db k end (t ∷ ts) ]

-- the steps for which the words of the proof of statement k stand
abbrev pub steps : List Statement → ℕ → List Token → List PlacedStep
steps db k [] = []
steps db k (t ∷ ts) = elim (bytes_eq t.word (codes "("))
    [ true ↦ compressed_steps db k (bracketed ts) | false ↦ normal_steps db k (t ∷ ts) ]
