-- The steps of a proof are what it names. (This project's own.)
use Rattle.std.specs.Prelude.{◌≡◌, ◌≢◌, ℕ, List, [], ◌∷◌, codes}
use Rattle.std.specs.List.{AllZip}
use Rattle.mm_spec.specs.Text.{Token}
use Rattle.mm_spec.specs.Statement.{Statement}
use Rattle.mm_spec.specs.Frame.{mandatory_hypotheses}
use Rattle.mm_spec.specs.Steps.{Step, label}
use Rattle.mm_spec.specs.Proof.{reading_faults}
use Rattle.mm_laws.specs.Spelling.{Item, IsCompressed, letters_in, Spells, IsUsable, AreSteps}
use Rattle.mm_laws.specs.Laws.BareSteps.{bare_steps}

-- the steps of a compressed proof are those that the items name which its letters spell
abbrev pub StepsAreNamed : List Statement → ℕ → Type 0
StepsAreNamed db k =
    (end : ℕ) (ts labels letters : List Token) (items : List Item) → reading_faults db k end ts ≡ []
    → IsCompressed ts labels letters → Spells (letters_in letters) items
    → (bracket_statements : List ℕ)
    × AllZip (λ t j. IsUsable db k t.word j) labels bracket_statements
    × AreSteps (mandatory_hypotheses db k) bracket_statements items (bare_steps db k ts)

-- hypotheses, labels and items name at most one list of steps
abbrev pub NamedStepsAreUnique : Type 0
NamedStepsAreUnique =
    (hypotheses labels : List ℕ) (items : List Item) (ss other_steps : List Step)
    → AreSteps hypotheses labels items ss → AreSteps hypotheses labels items other_steps
    → ss ≡ other_steps

-- the steps of a normal proof are its labels
abbrev pub StepsAreLabels : List Statement → ℕ → Type 0
StepsAreLabels db k =
    (end : ℕ) (t : Token) (ts : List Token) → reading_faults db k end (t ∷ ts) ≡ []
    → t.word ≢ codes "("
    → AllZip (λ u s. (j : ℕ) × (s ≡ label j) × IsUsable db k u.word j) (t ∷ ts)
    (bare_steps db k (t ∷ ts))
