-- The block of a statement is open as long as the depth isn't less than there (Metamath book,
-- "Basic Syntax"). The test is `is_block_open`.
use Rattle.std.specs.Prelude.{ℕ, ◌<◌, ◌≤◌, List}
use Rattle.mm_spec.specs.Statement.{Statement}
use Rattle.mm_spec.specs.Scope.{depth}

-- the block of statement j is still open at k
abbrev pub InBlock : List Statement → ℕ → ℕ → Type 0
InBlock db j k = (i : ℕ) → j < i → i ≤ k → depth db j ≤ depth db i
