-- What a closed board says of the proofs.
use Rattle.std.proofs.Common.{◌≡◌, ℕ, ◌+◌, ◌<◌, inl, inr, List, [], ◌∷◌, get_or, refl, subst, arith}
use Rattle.std.proofs.Common.{◌∙◌}
use Rattle.mm_spec.specs.Statement.{Statement}
use Rattle.mm_spec.specs.Citation.{IsValid}
use Rattle.mm_board.specs.Records.{times_in}
use Rattle.mm_board.specs.Rule.{IsLeastReported, times_reported}
use Rattle.mm_board.specs.Models.{SeatValue}
use Rattle.mm_work.specs.Judged.{HasCitations}
use Rattle.mm_work.specs.Workers.{theorem_of, AreGathered, AreFindings, IsFoundFaulty}
use Rattle.mm_work.specs.declared.job.Job.{Job}
use Rattle.mm_work.specs.declared.worker.Findings.{Findings}
use Rattle.mm_work.proofs.CitesAsDatabaseLaw.{valid_if_has_citations}
use Rattle.std.proofs.lemmas.List.{get_or_default}

module _ {A : Type 0} (job : Job A) (seat : SeatValue) (fs : List (Findings A))
    (are_gathered : AreGathered job seat fs) where
  abbrev db : List Statement
  db = job.database.now.statements

  -- the theorems below the floor are valid
  pub valid_below_floor : (floor : ℕ) → ((x : ℕ) → x < floor → times_in x seat.view.settled ≡ 1)
      → (n : ℕ) → n < floor → IsValid db (theorem_of db n)
  valid_below_floor floor each_is_settled n n_lt_floor =
      let found = are_gathered.settled_are_valid n (omega (arith, each_is_settled n n_lt_floor)) in
      let listed = found.are_listed in let index = found.has_index in
      valid_if_has_citations db job.essential _ _ (subst (λ i. HasCitations db job.essential
      (theorem_of db i) (get_or found.findings.cites index.0 []))
      (get_or_default found.findings.valid.items index.0 0 n index.1
      ∙ index.2) ((subst (λ (x : Findings A). AreFindings db job.essential x) listed.2
      (are_gathered.are_findings listed.0 found.findings listed.1)).each_has_citations index.0
      index.1))

  -- if the floor is below the count, a fault was found in the proof of the theorem with that index
  pub floor_is_found_faulty : (floor : ℕ) → IsLeastReported job.board.now.count (seat.view ∷ [])
      floor → floor < job.board.now.count → IsFoundFaulty fs floor
  floor_is_found_faulty floor is_least floor_lt_count = elim is_least.is_count_or_reported [
    | inl floor_is_count ↦ absurd (omega (arith, floor_is_count, floor_lt_count))
    | inr is_reported ↦ let count_splits : times_reported (seat.view ∷ []) floor
        ≡ times_in floor seat.view.reported + 0 = refl in
        are_gathered.reported_are_faulty floor (omega (arith, is_reported, count_splits))
  ]
