-- The labels to which steps expand, and valid proofs (Metamath book, "Proof Verification" and
-- "Compressed Proofs"); the faults of steps and of the end are this project's own.
use Rattle.std.specs.Prelude.{◌≡◌, ◌≢◌, ℕ, ◌-◌, ◌<◌, ◌≤◌, List, [], ◌∷◌, ◌++◌, length, drop, Option}
use Rattle.std.specs.Prelude.{Some, slice_get, map}
use Rattle.mm_spec.specs.Text.{Fault, fault}
use Rattle.mm_spec.specs.Derivation.{Context, Referent, hypothesis, assertion, Trees, tree, none}
use Rattle.mm_spec.specs.Derivation.{more}
use Rattle.mm_spec.specs.Derivation.{Formula, Substitution, Matches, KeepsDisjoint, substitute}
use Rattle.mm_spec.specs.Derivation.{AreDerivations, postfix, formulas}
use Rattle.mm_spec.specs.Limits.{formula_limit}
use Rattle.mm_spec.specs.Steps.{Step, label, marked, PlacedStep}
use Rattle.mm_spec.specs.declared.Code.TheVariants.{TooFewEntries, UnmatchedHypotheses, NotDisjoint}
use Rattle.mm_spec.specs.declared.Code.TheVariants.{NotOneEntry, OtherFormula, FormulaTooLong}
use Rattle.mm_spec.specs.declared.Code.{Code}

-- the last n entries
abbrev pub topmost : ℕ → List Formula → List Formula
topmost n entries = drop (length entries - n) entries

-- x is the postfix list of the last tree
abbrev pub IsLastTree : Trees → List ℕ → Type 0
IsLastTree none x = ⊥
IsLastTree (more ts l f cs) x = x ≡ postfix cs ++ l ∷ []

module _ (c : Context) where
  -- the labels are the postfix list of a forest of derivations, and x is that of its last tree
  abbrev pub EndsIn : List ℕ → List ℕ → Type 0
  EndsIn labels x =
      (forest : Trees) × AreDerivations c forest × (postfix forest ≡ labels) × IsLastTree forest x

  -- A step appends its label to the expansion, or the postfix list of the tree that an earlier step
  -- ended. `lists` has the expansion after each step so far.
  abbrev pub Adds : List (List ℕ) → List ℕ → Step → List ℕ → Type 0
  Adds lists labels_before (label l) labels_after = labels_after ≡ labels_before ++ l ∷ []
  Adds lists labels_before (marked j) labels_after =
      (earlier_labels : List ℕ) × (x : List ℕ) × (slice_get lists j ≡ Some earlier_labels) × EndsIn
      earlier_labels x
      × (labels_after ≡ labels_before ++ x)

  -- `all_labels` is the expansion after the steps, `labels_before` the one before them
  abbrev pub Expands : List (List ℕ) → List ℕ → List Step → List ℕ → Type 0
  Expands lists labels_before [] all_labels = all_labels ≡ labels_before
  Expands lists labels_before (s ∷ steps) all_labels =
      (labels_after : List ℕ) × Adds lists labels_before s labels_after × Expands
      (lists ++ labels_after ∷ []) labels_after steps all_labels

  -- the steps expand to these labels, those of the normal proof for which they stand
  abbrev pub ExpandTo : List Step → List ℕ → Type 0
  ExpandTo steps labels = Expands [] [] steps labels

  -- d is one tree, a derivation of the formula, and the steps expand to its postfix list
  abbrev pub Derives : List Step → Formula → Trees → Type 0
  Derives steps f d =
      (l : ℕ) × (cs : Trees) × (d ≡ tree l f cs) × AreDerivations c d × ExpandTo steps (postfix d)

-- why a step fails: the faults E34, E35, E36 and E39
pub data Reason : Type 0 where
  too_few unmatched not_disjoint too_long : Reason

-- the code of the fault of such a step
abbrev pub code_of : Reason → Code
code_of too_few = TooFewEntries
code_of unmatched = UnmatchedHypotheses
code_of not_disjoint = NotDisjoint
code_of too_long = FormulaTooLong

-- a forest with these formulas isn't one tree (E37), or is one with another formula (E38)
abbrev pub IsEndCode : List Formula → Formula → Code → Type 0
IsEndCode (g ∷ []) formula code = (g ≢ formula) × (code ≡ OtherFormula)
IsEndCode _ formula code = code ≡ NotOneEntry

module _ (c : Context) where
  -- the step of a label fails after a forest with these formulas, by the first reason that holds
  abbrev pub Fails : Option Referent → List Formula → Reason → Type 0
  Fails (Some (hypothesis g)) entries too_long = formula_limit < length g
  Fails (Some (assertion a)) entries too_few = length entries < length a.hypotheses
  Fails (Some (assertion a)) entries unmatched =
      (length a.hypotheses ≤ length entries)
      × ((σ : Substitution) → ¬ Matches c a (topmost (length a.hypotheses) entries) σ)
  Fails (Some (assertion a)) entries not_disjoint =
      (σ : Substitution) × (length a.hypotheses ≤ length entries)
      × Matches c a (topmost (length a.hypotheses) entries) σ × (¬ KeepsDisjoint c a σ)
  Fails (Some (assertion a)) entries too_long =
      (σ : Substitution) × (length a.hypotheses ≤ length entries)
      × Matches c a (topmost (length a.hypotheses) entries) σ × KeepsDisjoint c a σ
      × (formula_limit < length (substitute c σ a.formula))
  Fails _ entries _ = ⊥

  -- the step fails by the reason; a marked step never does
  abbrev pub StepFails : Step → List Formula → Reason → Type 0
  StepFails (label l) entries reason = Fails (c.referent l) entries reason
  StepFails (marked j) entries reason = ⊥

  -- The fault of a step: the steps before it expand to the postfix list of a forest of derivations,
  -- and the step fails after that forest.
  pub record StepFault (steps : List PlacedStep) (f : Fault) : Type 0 where
    pub before : List PlacedStep
    pub failing : PlacedStep
    pub after : List PlacedStep
    pub splits : steps ≡ before ++ failing ∷ after
    pub forest : Trees
    pub derivations : AreDerivations c forest
    pub expansion : ExpandTo c (map (λ s. s.step) before) (postfix forest)
    pub reason : Reason
    pub fails : StepFails failing.step (formulas forest) reason
    pub fault_is : f ≡ fault failing.at (code_of reason)

  -- The fault at the end: all steps expand to the postfix list of a forest of derivations, which
  -- isn't one tree with the theorem's formula.
  pub record ProofEndFault (steps : List PlacedStep) (formula : Formula) (end : ℕ)
      (f : Fault) : Type 0 where
    pub forest : Trees
    pub derivations : AreDerivations c forest
    pub expansion : ExpandTo c (map (λ s. s.step) steps) (postfix forest)
    pub code : Code
    pub fails : IsEndCode (formulas forest) formula code
    pub fault_is : f ≡ fault end code
