-- A theorem of what was read is valid or faulty, and has one proof and one fault at most.
use Rattle.std.proofs.Common.{◌≡◌, ℕ, Bool, true, false, List, [], ◌∷◌, Option, Some, None, ◌⊎◌}
use Rattle.std.proofs.Common.{inl, inr, refl, ap, ◌∙◌, rules, arith}
use Rattle.mm_spec.specs.declared.Fault.{Fault}
use Rattle.mm_spec.specs.Statement.{Statement}
use Rattle.mm_spec.specs.Lawful.{least, lesser, is_before}
use Rattle.mm_spec.specs.Frame.{formula_at}
use Rattle.mm_spec.specs.Citation.{context_at, steps_at, reading_faults_at, IsValid}
use Rattle.mm_spec.specs.Opened.{open_as_axioms}
use Rattle.mm_spec.specs.Laws.Complete.{AreComplete}
use Rattle.mm_spec.specs.Output.{ProofFault}
use Rattle.mm_laws.specs.Laws.Read.{WhereRead}
use Rattle.mm_laws.specs.Laws.Derivations.{LabelsDetermine, ProofIsUnique}
use Rattle.mm_laws.specs.Laws.Faults.{IsValidOrFaulty, ValidHasNoFault, FaultIsUnique}
use Rattle.mm_spec.proofs.CheckedLaw.{same_labels_same_forest}
use Rattle.mm_spec.proofs.CitedLaw.{two_proofs_are_equal}
use Rattle.mm_spec.proofs.GoodStepsLaw.{faultless_steps_are_good}
use Rattle.mm_laws.proofs.ReadLaw.{frames_are_complete}
use Rattle.mm_laws.proofs.JudgedLaw.{Verdict, verdict, valid, step_fault, end_fault}
use Rattle.mm_laws.proofs.OneOutputLaw.{proof_fault_is_unique, valid_has_no_fault}

-- some fault is the least
some_fault_is_least : (f : Fault) (fs : List Fault) → (g : Fault) × (least (f ∷ fs) ≡ Some g)
some_fault_is_least f fs = some_is_lesser (least fs)
  where
    one_is_chosen : (g : Fault) (b : Bool)
        → (h : Fault) × ◌≡◌ {A = Option Fault} (elim b [ true ↦ Some f | false ↦ Some g ]) (Some h)
    one_is_chosen g true = (f, refl)
    one_is_chosen g false = (g, refl)

    some_is_lesser : (o : Option Fault) → (h : Fault) × (lesser f o ≡ Some h)
    some_is_lesser None = (f, refl)
    some_is_lesser (Some g) = one_is_chosen g (is_before f g)

module _ (db : List Statement) (all_complete : AreComplete db) (k : ℕ) where
  pub is_valid_or_faulty : (end : ℕ) → IsValid db k ⊎ ((f : Fault) × ProofFault db k end f)
  is_valid_or_faulty end = judged_by_reading_faults (reading_faults_at db k) refl
    where
      judged_by_verdict : reading_faults_at db k ≡ []
          → Verdict (context_at db k) (all_complete k) (steps_at db k) (formula_at db k) end
          → IsValid db k ⊎ ((f : Fault) × ProofFault db k end f)
      judged_by_verdict no_faults (valid d derives) = inl (no_faults, d, derives)
      judged_by_verdict no_faults (step_fault f is_fault) = inr (f, inr (no_faults, inl is_fault))
      judged_by_verdict no_faults (end_fault f is_fault) = inr (f, inr (no_faults, inr is_fault))

      judged_by_reading_faults : (fs : List Fault) → reading_faults_at db k ≡ fs
          → IsValid db k ⊎ ((f : Fault) × ProofFault db k end f)
      judged_by_reading_faults [] no_reading_faults =
          judged_by_verdict no_reading_faults
          (verdict (context_at db k) (all_complete k) (steps_at db k) (formula_at db k) end
          (faultless_steps_are_good db k (all_complete k) no_reading_faults))
      judged_by_reading_faults (f ∷ fs) reading_faults_are = let least_fault = some_fault_is_least f
          fs in
          inr (least_fault.0, inl (ap least reading_faults_are ∙ least_fault.1))

pub labels_determine_derivations : WhereRead LabelsDetermine
labels_determine_derivations len x db fault is_read with_open k =
    search (rules, arith, same_labels_same_forest, frames_are_complete)

pub proof_is_unique : WhereRead ProofIsUnique
proof_is_unique len x db fault is_read with_open k =
    two_proofs_are_equal (open_as_axioms with_open db)
    (frames_are_complete len x db fault is_read with_open) k

pub theorem_is_valid_or_faulty : WhereRead IsValidOrFaulty
theorem_is_valid_or_faulty len x db fault is_read with_open k is_theorem_k =
    is_valid_or_faulty (open_as_axioms with_open db) (frames_are_complete len x db fault is_read
    with_open) k _

pub valid_theorem_has_no_fault : WhereRead ValidHasNoFault
valid_theorem_has_no_fault len x db fault is_read with_open k f =
    search (rules, arith, valid_has_no_fault, frames_are_complete)

pub fault_is_unique : WhereRead FaultIsUnique
fault_is_unique len x db fault is_read with_open k =
    search (rules, arith, proof_fault_is_unique, frames_are_complete)
