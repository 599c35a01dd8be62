-- Where a text is read, its proofs are valid or a first one has a fault.
use Rattle.std.proofs.Common.{ℕ, zero, suc, Bool, List, length, Option, Some, None, slice_get, ◌⊎◌}
use Rattle.std.proofs.Common.{inl, inr, refl, sym, ◌∙◌, subst, true≢false, arith}
use Rattle.std.specs.Prelude.{IsTrue}
use Rattle.std.proofs.lemmas.Bool.{cases_eq, cases_Bool}
use Rattle.mm_spec.specs.declared.Fault.{Fault}
use Rattle.mm_spec.specs.Statement.{Statement}
use Rattle.mm_spec.specs.Citation.{IsValid}
use Rattle.mm_spec.specs.Laws.Complete.{AreComplete}
use Rattle.mm_spec.specs.Lexed.{LexedText}
use Rattle.mm_spec.specs.Output.{IsRead, proof_end, is_theorem_at, AreValid, AllAreValid}
use Rattle.mm_spec.specs.Output.{FirstProofFault}
use Rattle.mm_laws.specs.Laws.FirstFaults.{IsSoundOrFaulty}
use Rattle.mm_spec.specs.Opened.{open_as_axioms}
use Rattle.mm_spec.proofs.CompleteLaw.{reads_complete}
use Rattle.mm_spec.proofs.OpenedLaw.{counted_complete}
use Rattle.mm_laws.proofs.TheoremLaw.{is_valid_or_faulty}
use Rattle.mm_laws.proofs.SomeReadingLaw.{is_readable}

module _ (db : List Statement) (all_complete : AreComplete db) where
  valid_up_to_next : (n : ℕ) → AreValid db n → (IsTrue (is_theorem_at db n) → IsValid db n)
      → AreValid db (suc n)
  valid_up_to_next n are_valid valid_if_theorem j j_lt_suc_n is_theorem_j = elim (cases_eq j n) [
    | inl j_is_n ↦ subst (IsValid db) (sym j_is_n)
        (valid_if_theorem (subst (λ i. IsTrue (is_theorem_at db i)) j_is_n is_theorem_j))
    | inr j_is_not_n ↦ are_valid j (omega arith) is_theorem_j
  ]

  -- the first theorems are valid, or one of them is the first with a fault
  pub are_valid_or_first_fault : (n : ℕ) → AreValid db n ⊎ ((k : ℕ) × (f : Fault) × FirstProofFault
      db k f)
  are_valid_or_first_fault zero = inl (λ j j_lt_0 is_theorem_j. absurd (omega arith))
  are_valid_or_first_fault (suc n) = elim (are_valid_or_first_fault n) [
    | inr first_fault ↦ inr first_fault
    | inl are_valid ↦ elim (cases_Bool (is_theorem_at db n)) [
      | inr no_theorem ↦ inl (valid_up_to_next n are_valid
          (λ is_theorem. absurd (true≢false (sym is_theorem ∙ no_theorem))))
      | inl is_theorem_n ↦
          elim (is_valid_or_faulty db all_complete n (proof_end (slice_get db n))) [
            | inl is_valid ↦ inl (valid_up_to_next n are_valid (λ is_theorem. is_valid))
            | inr (f, is_fault) ↦ inr (n, f, (is_theorem_n, are_valid, is_fault))
          ]
    ]
  ]

-- a text has a first fault, or none at all
pub is_sound_or_faulty : (len : ℕ) (x : LexedText) (with_open : Bool)
    → IsSoundOrFaulty len x with_open
is_sound_or_faulty len x with_open =
    let reading = is_readable len x in
    judged_by_reading reading.0 reading.1 reading.2
    (are_valid_or_first_fault (open_as_axioms with_open reading.0)
    (counted_complete with_open reading.0 (reads_complete len x reading.0 reading.1 reading.2))
    (length (open_as_axioms with_open reading.0)))
  where
    judged_by_reading : (db : List Statement) (o : Option Fault) → IsRead len x db o
        → AllAreValid (open_as_axioms with_open db)
        ⊎ ((k : ℕ) × (f : Fault) × FirstProofFault (open_as_axioms with_open db) k f)
        → IsSoundOrFaulty len x with_open
    judged_by_reading db o is_read (inr (k, f, is_first)) = inl (
      f,
      (db, o, is_read, inl (k, is_first)),
    )
    judged_by_reading db (Some f) is_read (inl are_valid) =
        inl (f, (db, Some f, is_read, inr (are_valid, refl)))
    judged_by_reading db None is_read (inl are_valid) = inr (db, (is_read, are_valid))
