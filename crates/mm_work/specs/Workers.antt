-- What workers are lent, and what a worker's seat and its findings say.
use Rattle.std.specs.Prelude.{◌≡◌, ℕ, ◌<◌, ◌++◌, ◌∷◌, Bool, All, List, [], Option, None, Some}
use Rattle.std.specs.Prelude.{length, false, true, slice_index, slice_index_or}
use Rattle.std.specs.List.{Contains}
use Rattle.std.specs.Option.{option_map}
use Rattle.mm_spec.specs.Statement.{Statement}
use Rattle.mm_spec.specs.Output.{theorems}
use Rattle.mm_spec.specs.declared.Fault.{Fault}
use Rattle.mm_rules.specs.Rules.{AreRules}
use Rattle.mm_board.specs.Records.{times_in}
use Rattle.mm_board.specs.Models.{BoardValue, SeatValue, IsSeatOf}
use Rattle.mm_work.specs.Judged.{HasCitations, HasFault}
use Rattle.mm_work.specs.declared.job.Job.{Job}
use Rattle.mm_work.specs.declared.worker.IndexedFault.{IndexedFault}
use Rattle.mm_work.specs.declared.worker.Findings.{Findings}
use Rattle.mm_work.specs.declared.worker.WorkerState.{WorkerState}

-- the theorem with this index
abbrev pub theorem_of : List Statement → ℕ → ℕ
theorem_of db i = slice_index (theorems db) i

-- the proof of the theorem has the fault, if there is one
abbrev pub IsFaultFound : List Statement → Option IndexedFault → Type 0
IsFaultFound db None = Unit {0}
IsFaultFound db (Some g) =
    (g.index < length (theorems db)) × HasFault db (theorem_of db g.index) g.fault

-- the index of the theorem in whose proof a fault was found, if there is one
abbrev pub faulty_index : Option IndexedFault → Option ℕ
faulty_index g = option_map (λ f. f.index) g

-- a seat that can begin to work: one of the board, which has drawn nothing yet
pub record IsFreshSeat (home : BoardValue) (seat : SeatValue) : Type 0 where
  pub is_of_board : IsSeatOf home seat
  pub not_over : seat.view.over ≡ false
  pub no_number_open : seat.view.open_number ≡ None
  pub none_settled : seat.view.settled ≡ []
  pub none_reported : seat.view.reported ≡ []

module _ {A : Type 0} where
  -- the rules of the job are those of its database, and the numbers of its board are the indices of
  -- the database's theorems
  pub record IsOfDatabase (job : Job A) : Type 0 where
    pub are_rules : AreRules job.database.now.statements job.rules.now
    pub count_is : job.board.now.count ≡ length (theorems job.database.now.statements)

  -- what a worker found is right: the proofs that it found valid are valid, with these citations,
  -- and the fault is that of its theorem
  pub record AreFindings (db : List Statement) (by_essential : Bool) (f : Findings A) : Type 0 where
    pub list_count_is : length f.cites ≡ length f.valid.items
    pub indices_lt_count : All (λ i. i < length (theorems db)) f.valid.items
    pub each_has_citations : (k : ℕ) → k < length f.valid.items
        → HasCitations db by_essential (theorem_of db (slice_index f.valid.items k))
        (slice_index_or f.cites k [])
    pub fault_is_found : IsFaultFound db f.faulty

  -- `after` is `before` with one theorem more whose proof is valid: that with index i, and what it
  -- cites
  pub record FindsValid (job : Job A) (i : ℕ) (before after : Findings A) : Type 0 where
    pub cites : List ℕ
    pub has_citations : HasCitations job.database.now.statements job.essential
        (theorem_of job.database.now.statements i) cites
    pub valid_are : after.valid.items ≡ before.valid.items ++ i ∷ []
    pub cites_are : after.cites ≡ before.cites ++ cites ∷ []
    pub faulty_is : after.faulty ≡ before.faulty

  -- `after` is `before` with the fault of the proof of the theorem with index i
  pub record FindsFault (job : Job A) (i : ℕ) (before after : Findings A) : Type 0 where
    pub fault : Fault
    pub has_fault : HasFault job.database.now.statements
        (theorem_of job.database.now.statements i) fault
    pub valid_are : after.valid.items ≡ before.valid.items
    pub cites_are : after.cites ≡ before.cites
    pub faulty_is : after.faulty ≡ Some (record { index = i; fault = fault })

  -- what the worker found is right, the numbers that its seat has settled are the indices of the
  -- proofs that it found valid, and what the seat has reported is the index of the fault
  pub record SeatTellsFindings (job : Job A) (w : WorkerState A) : Type 0 where
    pub are_findings : AreFindings job.database.now.statements job.essential w.findings
    pub settled_are_valid : w.seat.view.settled ≡ w.findings.valid.items
    pub reported_is_faulty : (i : ℕ) → 0 < times_in i w.seat.view.reported
        → faulty_index w.findings.faulty ≡ Some i

  -- the same if the worker didn't run out of memory
  abbrev pub SeatTellsUnlessShort : Job A → WorkerState A → Type 0
  SeatTellsUnlessShort job w = w.findings.short_of_memory ≡ false → SeatTellsFindings job w

  -- A worker between two theorems: its seat is one of the job's board and has no number open. What
  -- it found is right, and is what the seat has settled and reported, unless memory ran out.
  pub record IsBetweenTheorems (job : Job A) (w : WorkerState A) : Type 0 where
    pub is_of_board : IsSeatOf job.board.now w.seat
    pub no_number_open : w.seat.view.open_number ≡ None
    pub seat_tells : SeatTellsUnlessShort job w

  -- A worker that has drawn the theorem with index i: as between two theorems, but that this number
  -- is open. It is above all that the seat has reported.
  pub record HasDrawn (job : Job A) (i : ℕ) (w : WorkerState A) : Type 0 where
    pub index_lt_count : i < length (theorems job.database.now.statements)
    pub is_of_board : IsSeatOf job.board.now w.seat
    pub is_open : w.seat.view.open_number ≡ Some i
    pub index_above_reported : (x : ℕ) → 0 < times_in x w.seat.view.reported → x < i
    pub seat_tells : SeatTellsUnlessShort job w

  -- a worker that drew until no number was left, or that ran out of memory
  pub record IsDone (job : Job A) (w : WorkerState A) : Type 0 where
    pub is_between : IsBetweenTheorems job w
    pub is_over : w.findings.short_of_memory ≡ false → w.seat.view.over ≡ true

  -- one of the workers found the proof of the theorem with this index valid
  pub record IsFoundValid (fs : List (Findings A)) (i : ℕ) : Type 0 where
    pub findings : Findings A
    pub are_listed : Contains fs findings
    pub has_index : Contains findings.valid.items i

  -- one of the workers found a fault in the proof of the theorem with this index
  pub record IsFoundFaulty (fs : List (Findings A)) (i : ℕ) : Type 0 where
    pub findings : Findings A
    pub are_listed : Contains fs findings
    pub index_is : faulty_index findings.faulty ≡ Some i

  -- the workers' seats were joined to this one, none of them ran out of memory, and this is what
  -- they found
  pub record AreGathered (job : Job A) (seat : SeatValue) (fs : List (Findings A)) : Type 0 where
    pub is_of_board : IsSeatOf job.board.now seat
    pub no_number_open : seat.view.open_number ≡ None
    pub is_over : seat.view.over ≡ true
    pub are_findings : All (AreFindings job.database.now.statements job.essential) fs
    pub settled_are_valid : (i : ℕ) → 0 < times_in i seat.view.settled → IsFoundValid fs i
    pub reported_are_faulty : (i : ℕ) → 0 < times_in i seat.view.reported → IsFoundFaulty fs i
