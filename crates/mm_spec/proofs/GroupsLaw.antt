-- Groups of letters of which none has a fault: each is a number that means something, or a mark of
-- a step.
use Rattle.std.proofs.Common.{rules, ◌≡◌, ℕ, ◌+◌, ◌==◌, ◌<◌, ◌≤◌, Bool, true, false, ◌⊎◌, List, []}
use Rattle.std.proofs.Common.{◌∷◌, ◌++◌, length, nat_lt, refl, arith, leb-true, ltb-false, eqb-true}
use Rattle.std.proofs.lemmas.Grind.{common_steps}
use Rattle.std.proofs.lemmas.Bool.{and_parts, eqb-false}
use Rattle.mm_spec.specs.declared.Fault.{Fault}
use Rattle.mm_spec.specs.Lawful.{when, faults_at}
use Rattle.mm_spec.specs.CompressedProof.{Letter, Group, is_last_letter, value, starts_at}
use Rattle.mm_spec.specs.CompressedProof.{group_faults}
use Rattle.mm_spec.specs.declared.Code.TheVariants.{OpenNumber, MarkBeforeStep, NumberTooLarge}
use Rattle.mm_spec.specs.declared.Code.TheVariants.{IncompleteProof, BadLetter}
use Rattle.mm_spec.proofs.FaultlessLaw.{both_are_empty, no_faults_no_codes, no_code_if_false}

-- groups that have no fault
abbrev pub AreFaultless : ℕ → ℕ → ℕ → List Group → Type 0
AreFaultless label_count marks count [] = Unit {0}
AreFaultless label_count marks count (g ∷ gs) =
    ((is_last_letter g.last.byte ≡ true) × (value g ≤ label_count + marks)
    × AreFaultless label_count marks (count + 1) gs)
    ⊎ ((is_last_letter g.last.byte ≡ false) × (g.last.byte ≡ 90) × (g.early ≡ []) × (0 < count)
    × AreFaultless label_count (marks + 1) count gs)

pub nil_if_not_positive : (xs : List Letter) → nat_lt 0 (length xs) ≡ false → xs ≡ []
nil_if_not_positive xs h1 = grind (arith, common_steps, ltb-false)

pub groups_are_faultless : (gs : List Group) (label_count marks count : ℕ)
    → group_faults label_count marks count gs ≡ []
    → AreFaultless label_count marks count gs
groups_are_faultless [] label_count marks count no_faults = tt
groups_are_faultless (g ∷ gs) label_count marks count no_faults =
    faultless_by_letter (is_last_letter g.last.byte) refl (g.last.byte == 90) refl no_faults
    (λ rest_no_faults. groups_are_faultless gs label_count marks (count + 1) rest_no_faults)
    (λ rest_no_faults. groups_are_faultless gs label_count (marks + 1) count rest_no_faults)
  where
    faults_of_group : Bool → Bool → List Fault
    faults_of_group a b = elim a [
      | true ↦ faults_at (starts_at g)
          (when (nat_lt (label_count + marks) (value g)) NumberTooLarge)
      | false ↦ elim b [
        | true ↦ faults_at g.last.at
            (when (nat_lt 0 (length g.early)) OpenNumber ++ when (count == 0) MarkBeforeStep)
        | false ↦ faults_at g.last.at
            (elim (g.last.byte == 63) [ true ↦ IncompleteProof ∷ [] | false ↦ BadLetter ∷ [] ])
      ]
    ]

    faults_of_later_groups : Bool → List Fault
    faults_of_later_groups b =
        elim b [
          | true ↦ group_faults label_count (marks + 1) count gs
          | false ↦ group_faults label_count marks (count + 1) gs
        ]

    other_byte_is_fault : (b : Bool)
        → ¬ (faults_at g.last.at (elim b [ true ↦ IncompleteProof ∷ [] | false ↦ BadLetter ∷ [] ])
        ≡ [])
    other_byte_is_fault true is_nil = cc
    other_byte_is_fault false is_nil = cc

    faultless_by_letter : (a : Bool) → is_last_letter g.last.byte ≡ a → (b : Bool)
        → (g.last.byte == 90) ≡ b
        → faults_of_group a b ++ faults_of_later_groups b ≡ []
        → (group_faults label_count marks (count + 1) gs ≡ []
        → AreFaultless label_count marks (count + 1) gs)
        → (group_faults label_count (marks + 1) count gs ≡ []
        → AreFaultless label_count (marks + 1) count gs)
        → AreFaultless label_count marks count (g ∷ gs)
    faultless_by_letter true ends_number true is_mark no_faults after_number after_mark =
        search (rules, arith, leb-true, and_parts, eqb-true)
    faultless_by_letter true ends_number false not_mark no_faults after_number after_mark =
        let both = both_are_empty (faults_of_group true false) (faults_of_later_groups false)
        no_faults in
        search (rules, arith, no_code_if_false, no_faults_no_codes, both_are_empty, ltb-false)
    faultless_by_letter false not_last_letter true is_mark no_faults after_number after_mark =
        let both = both_are_empty (faults_of_group false true) (faults_of_later_groups true)
        no_faults in
        let codes = both_are_empty (when (nat_lt 0 (length g.early)) OpenNumber)
        (when (count == 0) MarkBeforeStep) (no_faults_no_codes g.last.at _ both.0) in
        search (rules, arith, no_code_if_false, eqb-false, eqb-true, nil_if_not_positive)
    faultless_by_letter false not_last_letter false not_mark no_faults after_number after_mark =
        let both = both_are_empty (faults_of_group false false) (faults_of_later_groups false)
        no_faults in
        absurd (other_byte_is_fault (g.last.byte == 63) both.0)
