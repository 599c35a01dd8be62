-- Chains of citations, for any relation as citation (this project's own; what a proof cites is in
-- `Citation`, after "Proof Verification" of the Metamath book).
use Rattle.std.specs.Prelude.{ℕ, List, [], ◌∷◌}

module _ (Cites : ℕ → ℕ → Type 0) where
  -- a chain of citations from t through the assertions between to a
  abbrev pub IsChain : ℕ → List ℕ → ℕ → Type 0
  IsChain t [] a = Cites t a
  IsChain t (b ∷ between) a = Cites t b × IsChain b between a

  -- a chain of citations leads from t to a
  abbrev pub RestsOn : ℕ → ℕ → Type 0
  RestsOn t a = (between : List ℕ) × IsChain t between a
