-- What it is for a theorem to be proved, by the words of its proof. (This project's own.)
use Rattle.std.specs.Prelude.{◌≡◌, ◌≢◌, ◌↔◌, ℕ, List, [], ◌∷◌, ◌⊎◌, IsTrue, codes}
use Rattle.std.specs.List.{AllZip}
use Rattle.mm_spec.specs.Text.{Token}
use Rattle.mm_spec.specs.Statement.{Statement}
use Rattle.mm_spec.specs.Assertion.{proof_at}
use Rattle.mm_spec.specs.Derivation.{Trees}
use Rattle.mm_spec.specs.Frame.{formula_at, mandatory_hypotheses}
use Rattle.mm_spec.specs.Steps.{Step, label}
use Rattle.mm_spec.specs.Valid.{Derives}
use Rattle.mm_laws.specs.Spelling.{IsUsable, IsWellSpelled, AreSteps}
use Rattle.mm_spec.specs.Citation.{context_at, IsValid}
use Rattle.mm_spec.specs.Output.{is_theorem_at}

-- The words of a compressed proof are well formed, and say these steps: the labels in brackets are
-- those of the `bracket_statements`, and the steps are what the numbers name that the letters
-- spell, given these statements and the mandatory hypotheses.
pub record SaysCompressed (db : List Statement) (k : ℕ) (ts : List Token)
    (ss : List Step) : Type 0 where
  pub is_well_spelled : IsWellSpelled db k ts
  pub bracket_statements : List ℕ
  pub labels_name_statements : AllZip (λ t j. IsUsable db k t.word j) is_well_spelled.labels
      bracket_statements
  pub are_steps : AreSteps (mandatory_hypotheses db k) bracket_statements is_well_spelled.items ss

-- each word of a normal proof is a usable label and none is `?`, and the steps are the statements
-- with these labels
abbrev pub SaysNormal : List Statement → ℕ → List Token → List Step → Type 0
SaysNormal db k ts ss =
    AllZip (λ u s. (u.word ≢ codes "?") × ((j : ℕ) × (s ≡ label j) × IsUsable db k u.word j)) ts ss

-- the words of a proof are well formed, and say these steps
abbrev pub Says : List Statement → ℕ → List Token → List Step → Type 0
Says db k [] ss = ⊥
Says db k (t ∷ ts) ss = ((t.word ≡ codes "(") × SaysCompressed db k (t ∷ ts) ss)
    ⊎ ((t.word ≢ codes "(") × SaysNormal db k (t ∷ ts) ss)

-- the words of its proof say steps that expand to the labels of a derivation of its formula
pub record IsProved (db : List Statement) (k : ℕ) : Type 0 where
  pub steps : List Step
  pub says_steps : Says db k (proof_at db k) steps
  pub derivation : Trees
  pub derives_formula : Derives (context_at db k) steps (formula_at db k) derivation

-- a theorem is valid exactly if it is proved in this sense
abbrev pub ValidIsProved : List Statement → ℕ → Type 0
ValidIsProved db k = IsTrue (is_theorem_at db k) → IsValid db k ↔ IsProved db k
