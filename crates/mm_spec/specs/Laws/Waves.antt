-- The wave of a theorem (this project's own): the number of citations in the longest chain from it
-- that runs through theorems only.
use Rattle.std.specs.Prelude.{ℕ, Bool, List, IsTrue}
use Rattle.std.specs.List.{list_any}
use Rattle.mm_spec.specs.Statement.{Statement}
use Rattle.mm_spec.specs.Scope.{statement_at}
use Rattle.mm_spec.specs.Citation.{is_theorem, Cites}
use Rattle.mm_spec.specs.Laws.Chains as chain

-- statement b is a theorem
abbrev pub IsTheorem : List Statement → ℕ → Type 0
IsTheorem db b = IsTrue (list_any is_theorem (statement_at db b))

-- the longest chain of citations from t through theorems only has n citations
abbrev pub IsWave : List Statement → (by_essential : Bool) → ℕ → ℕ → Type 0
IsWave db by_essential t n = chain.IsLongestChain (Cites db by_essential) (IsTheorem db) t n
