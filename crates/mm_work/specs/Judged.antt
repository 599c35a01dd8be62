-- What the checking of all proofs finds.
use Rattle.std.specs.Prelude.{◌≡◌, ℕ, ◌<◌, Bool, List, [], length, slice_index, slice_index_or}
use Rattle.std.specs.Prelude.{slice_get, Decides, ◌↔◌}
use Rattle.mm_spec.specs.Derivation.{is_member}
use Rattle.std.specs.List.Sorted.{IsStrictlyIncreasing}
use Rattle.mm_spec.specs.Statement.{Statement}
use Rattle.mm_spec.specs.Citation.{reading_faults_at}
use Rattle.mm_spec.specs.Citation as proof
use Rattle.mm_spec.specs.Output.{AreValid, FirstProofFault, ProofFault, proof_end, theorems}
use Rattle.mm_spec.specs.declared.Fault.{Fault}
use Rattle.mm_check.specs.Contract.{IsChecked}
use Rattle.mm_cites.specs.Citing.{Citing, HasCitation, theorem_at, list_at}
use Rattle.mm_work.specs.declared.proof.VerifyRefused.{VerifyRefused}
use Rattle.mm_work.specs.declared.proof.VerifyRefused.TheVariants.{Fault as FaultOf, Memory}
use Rattle.mm_work.specs.declared.judged.Judged.{Judged}
use Rattle.mm_work.specs.declared.judged.Judged.TheVariants.{Valid, Faulty}

-- these are the citations of a valid theorem
pub record HasCitations (db : List Statement) (by_essential : Bool) (t : ℕ)
    (cites : List ℕ) : Type 0 where
  pub no_reading_faults : reading_faults_at db t ≡ []
  pub is_checked : IsChecked db by_essential t cites

-- the first `n` theorems are valid, with these citations
pub record HaveCitationsUpTo (db : List Statement) (by_essential : Bool) (ts : List ℕ) (n : ℕ)
    (lists : List (List ℕ)) : Type 0 where
  pub list_count_is : length lists ≡ n
  pub each_has_citations : (i : ℕ) → i < n
      → HasCitations db by_essential (slice_index ts i) (slice_index_or lists i [])

-- the lists are what the theorems of a database cite
pub record CitesAsDatabase (db : List Statement) (by_essential : Bool) (c : Citing) : Type 0 where
  pub citations_agree : (t a : ℕ) → HasCitation c t a ↔ proof.Cites db by_essential t a

-- all theorems are valid, and these are their citations, each list in ascending order, with each
-- assertion once
pub record AllHaveCitations (db : List Statement) (by_essential : Bool) (c : Citing) : Type 0 where
  pub theorems_are : c.theorems ≡ theorems db
  pub are_valid : AreValid db (length db)
  pub lists_rise : (i : ℕ) → i < length c.theorems → IsStrictlyIncreasing (list_at c i)
  pub lists_are_exact : (i : ℕ) → i < length c.theorems → (a : ℕ)
      → Decides (is_member (list_at c i) a) (proof.Cites db by_essential (theorem_at c i) a)
  pub cites_as_database : CitesAsDatabase db by_essential c

-- the proof of some theorem has this fault, and those of the earlier ones have none
abbrev pub IsFirstFault : List Statement → Fault → Type 0
IsFirstFault db f = (k : ℕ) × FirstProofFault db k f

-- the proof of the theorem has this fault
abbrev pub HasFault : List Statement → ℕ → Fault → Type 0
HasFault db t f = ProofFault db t (proof_end (slice_get db t)) f

-- if the refusal is a fault, it is that of the theorem's proof
abbrev pub IsVerifyRefusalOf : List Statement → ℕ → VerifyRefused → Type 0
IsVerifyRefusalOf db t (FaultOf f) = HasFault db t f
IsVerifyRefusalOf db t Memory = Unit {0}

-- what was found: the citations of all theorems, or the first fault of a proof
module _ {A : Type 0} where
  abbrev pub IsJudgement : List Statement → Bool → Judged A → Type 0
  IsJudgement db by_essential (Valid citations) = AllHaveCitations db by_essential citations
  IsJudgement db by_essential (Faulty f) = IsFirstFault db f
