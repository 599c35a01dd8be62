-- What a proof may use, and which theorems are valid (Metamath book, "Proof Verification"); on
-- which assertions a theorem rests (this project's own).
use Rattle.std.specs.Prelude.{◌≡◌, ℕ, Bool, true, false, List, [], map, Option, Some, None}
use Rattle.std.specs.Prelude.{slice_get, IsTrue}
use Rattle.std.specs.List.{list_any}
use Rattle.mm_spec.specs.Text.{Fault}
use Rattle.mm_spec.specs.Statement.{Statement, floating, essential, axiomatic, provable}
use Rattle.mm_spec.specs.Scope.{active_at, statement_at}
use Rattle.mm_spec.specs.Frame.{is_variable_number, disjoint_at, formula_at, frame_at}
use Rattle.mm_spec.specs.Derivation.{Context, Referent, hypothesis, assertion, Trees}
use Rattle.mm_spec.specs.Nodes.{IsNodeLabel}
use Rattle.mm_spec.specs.Steps.{PlacedStep}
use Rattle.mm_spec.specs.Proof.{steps, reading_faults}
use Rattle.mm_spec.specs.Valid.{Derives}
use Rattle.mm_spec.specs.Chains as chain

-- what the label of an active statement refers to in a proof
abbrev pub referent_of : List Statement → ℕ → Statement → Option Referent
referent_of db j (floating l k xs d) = Some (hypothesis (formula_at db j))
referent_of db j (essential l k xs d) = Some (hypothesis (formula_at db j))
referent_of db j (axiomatic l k xs d) = Some (assertion (frame_at db j))
referent_of db j (provable l k xs e ps d) = Some (assertion (frame_at db j))
referent_of db j _ = None

-- what the label of statement j refers to in the proof of statement k
abbrev pub referent_at : List Statement → ℕ → ℕ → Option Referent
referent_at db k j =
    elim (active_at db j k)
    [ false ↦ None | true ↦ elim (slice_get db j) [ None ↦ None | Some s ↦ referent_of db j s ] ]

-- the context of the proof of statement k
abbrev pub context_at : List Statement → ℕ → Context
context_at db k =
    record {
      is_variable = is_variable_number db;
      is_disjoint = disjoint_at db k;
      referent = referent_at db k;
    }

-- the steps of the proof of statement k, if that is a theorem
abbrev pub steps_at : List Statement → ℕ → List PlacedStep
steps_at db k = elim (slice_get db k) [ Some (provable l p xs e ps d) ↦ steps db k ps | _ ↦ [] ]

-- the faults of reading the proof of statement k, if that is a theorem
abbrev pub reading_faults_at : List Statement → ℕ → List Fault
reading_faults_at db k =
    elim (slice_get db k) [ Some (provable l p xs e ps d) ↦ reading_faults db k d ps | _ ↦ [] ]

-- whether a statement is a `$p`
abbrev pub is_theorem : Statement → Bool
is_theorem (provable l k xs e ps d) = true
is_theorem _ = false

-- whether a statement is a `$a` or a `$p`
abbrev pub is_assertion : Statement → Bool
is_assertion (provable l k xs e ps d) = true
is_assertion (axiomatic l k xs d) = true
is_assertion _ = false

-- d is a proof of theorem k: a derivation of its formula for which the steps of its proof stand
abbrev pub IsProof : List Statement → ℕ → Trees → Type 0
IsProof db k d = Derives (context_at db k) (map (λ s. s.step) (steps_at db k)) (formula_at db k) d

-- theorem k is valid: its proof is read without a fault, and is a proof of its formula
abbrev pub IsValid : List Statement → ℕ → Type 0
IsValid db k = (reading_faults_at db k ≡ []) × (d : Trees) × IsProof db k d

-- theorem t cites assertion a: a is the label of a node of a proof of t, or with the flag of an
-- essential node
abbrev pub Cites : List Statement → (by_essential : Bool) → ℕ → ℕ → Type 0
Cites db by_essential t a =
    IsTrue (list_any is_assertion (statement_at db a)) × (d : Trees) × IsProof db t d
    × IsNodeLabel db by_essential d a

-- a chain of citations leads from t to a: the cell of theorem t and axiom a is marked
abbrev pub RestsOn : List Statement → (by_essential : Bool) → ℕ → ℕ → Type 0
RestsOn db by_essential t a = chain.RestsOn (Cites db by_essential) t a
