-- Where among the workers' findings the citations of a theorem are.
use Rattle.std.specs.Prelude.{◌≡◌, ℕ, ◌<◌, List, Some, length, slice_index, slice_get}
use Rattle.mm_work.specs.declared.merge.ListPosition.{ListPosition}
use Rattle.mm_work.specs.declared.worker.Findings.{Findings}

-- by these positions, the citations of the theorem with index i are with this worker, which found
-- the proofs of the theorems with the indices `valid` to be valid
pub record IsWithWorker (positions : List ListPosition) (worker : ℕ) (valid : List ℕ)
    (i : ℕ) : Type 0 where
  pub position : ListPosition
  pub position_is : slice_get positions i ≡ Some position
  pub worker_is : position.worker ≡ worker
  pub list_lt_length : position.list < length valid
  pub index_is : slice_index valid position.list ≡ i

-- by these positions, the citations of the theorem with index i are with one of the workers
module _ {A : Type 0} where
  pub record HasPosition (positions : List ListPosition) (fs : List (Findings A))
      (i : ℕ) : Type 0 where
    pub worker : ℕ
    pub findings : Findings A
    pub findings_are : slice_get fs worker ≡ Some findings
    pub is_with_worker : IsWithWorker positions worker findings.valid.items i
