-- How the rows of the narrow `$d` are made, pair by pair.
use Rattle.std.specs.Prelude.{◌≡◌, ◌⊎◌, ℕ, ◌<◌, Bool, true, ◌&&◌, ◌||◌, List, length, get_or}
use Rattle.std.specs.Prelude.{nat_eq, Vec}
use Rattle.mm_outline.specs.Blocks.{BlockLists}
use Rattle.mm_database.specs.Pairs.{has_pair, IsBefore}
use Rattle.mm_database.specs.DisjointIndex.{HaveBlocks, IsRow, IsRowOfPairs}

-- the statement of the pair has a block
abbrev pub HasBlock : BlockLists → ℕ × ℕ → Type 0
HasBlock b p = (p.1 < length b.block_of) × (get_or b.block_of p.1 0 < length b.ends)

-- whether the two are the pair
abbrev pub is_pair : ℕ × ℕ → ℕ → ℕ → Bool
is_pair p y j = nat_eq y p.0 && nat_eq j p.1

-- the pair is behind all pairs that pass the test, or the last of them
abbrev pub IsLastOf : (ℕ → ℕ → Bool) → ℕ × ℕ → Type 0
IsLastOf passes p =
    (y j : ℕ) → passes y j ≡ true → IsBefore y j p.0 p.1 ⊎ ((y ≡ p.0) × (j ≡ p.1))

module _ (b : BlockLists) where
  -- the row is that of the pairs that pass the test
  pub record IsRowFor (passes : ℕ → ℕ → Bool) (row : List (ℕ × ℕ)) : Type 0 where
    pub is_row : IsRow b row
    pub are_pairs : IsRowOfPairs b passes row

  -- the row of the pairs that pass a test becomes that of these and one more, behind them
  abbrev pub AddsToRow : ℕ × ℕ → List (ℕ × ℕ) → List (ℕ × ℕ) → Type 0
  AddsToRow p old new =
      (passes : ℕ → ℕ → Bool) → IsLastOf passes p → IsRowFor passes old
      → IsRowFor (λ y j. passes y j || is_pair p y j) new

  module _ {A : Type 0} where
    -- the statements in the rows have a block
    abbrev pub AreAllKnown : List (Vec (ℕ × ℕ) A) → Type 0
    AreAllKnown rows =
        (x : ℕ) (d : Vec (ℕ × ℕ) A) → x < length rows → HaveBlocks b (get_or rows x d).items

    -- the rows are those of the pairs that pass the test of their symbol
    abbrev pub AreRowsFor : (ℕ → ℕ → ℕ → Bool) → List (Vec (ℕ × ℕ) A) → Type 0
    AreRowsFor passes rows =
        (x : ℕ) (d : Vec (ℕ × ℕ) A) → x < length rows
        → IsRowFor (passes x) (get_or rows x d).items

    -- The pairs of the list are added to the rows: the pair of x and j to the row of x, as the one
    -- of `high` and j. No row has a symbol that isn't lower than `high`.
    abbrev pub AddsListToRows : ℕ → List (ℕ × ℕ) → List (Vec (ℕ × ℕ) A) → List (Vec (ℕ × ℕ) A)
        → Type 0
    AddsListToRows high list old new =
        (passes : ℕ → ℕ → ℕ → Bool) → ((x y j : ℕ) → passes x y j ≡ true → y < high)
        → AreRowsFor passes old
        → AreRowsFor (λ x y j. passes x y j || (nat_eq y high && has_pair list x j)) new
