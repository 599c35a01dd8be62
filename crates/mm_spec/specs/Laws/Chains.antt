-- The longest chain of citations through theorems only, for any relation as citation: for the one
-- that statements define, and for the one that lists of their citations do.
use Rattle.std.specs.Prelude.{ℕ, zero, suc, ◌≤◌}

module _ (Cites : ℕ → ℕ → Type 0) (IsTheorem : ℕ → Type 0) where
  -- a chain of n citations from t on, through theorems only
  abbrev pub TheoremChain : ℕ → ℕ → Type 0
  TheoremChain t zero = Unit {0}
  TheoremChain t (suc n) = (b : ℕ) × Cites t b × IsTheorem b × TheoremChain b n

  -- the longest such chain has n citations
  abbrev pub IsLongestChain : ℕ → ℕ → Type 0
  IsLongestChain t n = TheoremChain t n × ((m : ℕ) → TheoremChain t m → m ≤ n)
