-- Pairs of symbols that are disjoint at a theorem.
use Rattle.std.specs.Prelude.{◌≡◌, ℕ, ◌<◌, true, All, List, [], ◌∷◌, ◌++◌, length, get_or, ◌⊎◌}
use Rattle.mm_spec.specs.Statement.{Statement}
use Rattle.mm_spec.specs.Derivation.{are_disjoint}
use Rattle.mm_spec.specs.Citation.{context_at}
use Rattle.mm_machine.specs.FlagRows.{RowsOfFlags, AreRowsDisjointAt}

-- the pair of symbols is in the list, in this order
abbrev pub HasPair : List (ℕ × ℕ) → ℕ → ℕ → Type 0
HasPair ps s t =
    (n : ℕ) × (n < length ps) × ((get_or ps n (s, t)).0 ≡ s) × ((get_or ps n (s, t)).1 ≡ t)

-- the list stays, or the pair of symbols is appended, in this order
abbrev pub MayInsertPair : List (ℕ × ℕ) → ℕ → ℕ → List (ℕ × ℕ) → Type 0
MayInsertPair ps s t qs = (qs ≡ ps) ⊎ (qs ≡ ps ++ (s, t) ∷ [])

-- each of the pairs of symbols is disjoint at the theorem
abbrev pub ArePairsDisjointAt : List Statement → ℕ → List (ℕ × ℕ) → Type 0
ArePairsDisjointAt db t ps = All (λ (p : ℕ × ℕ). are_disjoint (context_at db t) p.0 p.1 ≡ true) ps

-- pairs of symbols that are listed, and pairs that have flags in rows
pub record KnownPairs : Type 0 where
  pub pairs : List (ℕ × ℕ)
  pub rows : RowsOfFlags

abbrev pub known_pairs : List (ℕ × ℕ) → RowsOfFlags → KnownPairs
known_pairs pairs rows = record { pairs = pairs; rows = rows }

-- all these pairs are disjoint at the theorem
pub record AreDisjointAt (db : List Statement) (t : ℕ) (k : KnownPairs) : Type 0 where
  pub pairs_are_disjoint : ArePairsDisjointAt db t k.pairs
  pub rows_are_disjoint : AreRowsDisjointAt db t k.rows
