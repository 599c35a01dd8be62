-- Which `$d` statements have a symbol or two, and which of those are active at a statement.
use Rattle.std.specs.Prelude.{◌≡◌, ℕ, ◌<◌, ◌≤◌, Bool, true, false, ◌&&◌, not, List, [], length}
use Rattle.std.specs.Prelude.{get_or, nat_eq, nat_lt, nat_le, slice_index_or, if◌then◌else◌}
use Rattle.std.specs.List.{list_any}
use Rattle.mm_spec.specs.Statement.{Statement}
use Rattle.mm_spec.specs.Scope.{statement_at}
use Rattle.mm_spec.specs.Derivation.{is_member}
use Rattle.mm_spec.specs.Frame.{is_disjoint_statement, formula_at}
use Rattle.mm_outline.specs.Blocks.{BlockLists, end_of}
use Rattle.mm_database.specs.Pairs.{has_pair, AreRising}

-- whether a `$d` of these symbols is narrow: it has at most 16
abbrev pub is_narrow : List ℕ → Bool
is_narrow symbols = nat_le (length symbols) 16

-- statement j is a narrow `$d`, or a wide one
abbrev pub is_disjoint_by_width : List Statement → (narrow : Bool) → ℕ → Bool
is_disjoint_by_width db narrow j =
    list_any is_disjoint_statement (statement_at db j)
    && (if narrow then is_narrow (formula_at db j) else not (is_narrow (formula_at db j)))

-- the same, and it has the symbol
abbrev pub has_symbol_by_width : List Statement → (narrow : Bool) → ℕ → ℕ → Bool
has_symbol_by_width db narrow x j =
    is_disjoint_by_width db narrow j && is_member (formula_at db j) x

-- statement j is a narrow `$d` that has x and the higher symbol y
abbrev pub has_narrow_pair : List Statement → ℕ → ℕ → ℕ → Bool
has_narrow_pair db x y j =
    nat_lt x y && (has_symbol_by_width db true y j && is_member (formula_at db j) x)

-- statement j is before k, and its block is open there
abbrev pub is_active_local : BlockLists → ℕ → ℕ → Bool
is_active_local blocks j k = nat_lt j k && nat_le k (end_of blocks j)

-- the statements of the pairs have a block
abbrev pub HaveBlocks : BlockLists → List (ℕ × ℕ) → Type 0
HaveBlocks blocks ps =
    (p : ℕ) → p < length ps
    → ((get_or ps p (0, 0)).1 < length blocks.block_of)
    × (get_or blocks.block_of (get_or ps p (0, 0)).1 0 < length blocks.ends)

-- pair p has the symbol of pair q, and a block that ends no later
abbrev pub IsCovered : BlockLists → ℕ × ℕ → ℕ × ℕ → Type 0
IsCovered blocks p q = (p.0 ≡ q.0) × (end_of blocks p.1 ≤ end_of blocks q.1)

-- the pairs with the indices from `from` to q are covered by the pair with index q
abbrev pub Covers : BlockLists → List (ℕ × ℕ) → ℕ → ℕ → Type 0
Covers blocks ps from q =
    (p : ℕ) → from ≤ p → p ≤ q → IsCovered blocks (get_or ps p (0, 0)) (get_or ps q (0, 0))

-- For each pair an index from which on it covers the pairs up to it. If the block of the pair is
-- closed, so are the blocks of those, and a search passes over all of them.
pub record AreSkips (blocks : BlockLists) (ps : List (ℕ × ℕ)) (skips : List ℕ) : Type 0 where
  pub count : length skips ≡ length ps
  pub within : (q : ℕ) → q < length ps → get_or skips q 0 ≤ q
  pub covers : (q : ℕ) → q < length ps → Covers blocks ps (get_or skips q 0) q

-- The row of a symbol has higher symbols, each paired with a `$d` that has both. The pairs are in
-- order, and their statements have a block. Of two pairs of one symbol the later one has a block
-- that ends later. So the last pair before a statement is active there if any earlier one is.
pub record IsRow (blocks : BlockLists) (row : List (ℕ × ℕ)) : Type 0 where
  pub rising : AreRising row
  pub known : HaveBlocks blocks row
  pub ends_rise : (y i j : ℕ) → has_pair row y i ≡ true → has_pair row y j ≡ true → i < j
      → end_of blocks i < end_of blocks j

-- the row has symbol y with statement i, which is no later than j, in a block that ends no earlier
pub record IsCoveredIn (blocks : BlockLists) (row : List (ℕ × ℕ)) (y j : ℕ) : Type 0 where
  pub covering : ℕ
  pub is_there : has_pair row y covering ≡ true
  pub covering_le : covering ≤ j
  pub ends_no_earlier : end_of blocks j ≤ end_of blocks covering

-- each pair of the row passes the test, and each pair that passes is covered by one of the row
pub record IsRowOfPairs (blocks : BlockLists) (passes : ℕ → ℕ → Bool) (row : List (ℕ × ℕ))
    : Type 0 where
  pub pairs_pass : (y j : ℕ) → has_pair row y j ≡ true → passes y j ≡ true
  pub passing_are_covered : (y j : ℕ) → passes y j ≡ true → IsCoveredIn blocks row y j

-- whether the row has symbol y with a `$d` that is active at k
abbrev pub is_active_in_row : BlockLists → List (ℕ × ℕ) → ℕ → ℕ → Bool
is_active_in_row blocks row y k = list_any (λ p. nat_eq y p.0 && is_active_local blocks p.1 k) row

-- Pairs of a symbol and a wide `$d` that has it, and for each of them an index to skip to. For each
-- symbol a row of its narrow `$d`.
pub record PairLists : Type 0 where
  pub by_symbol : List (ℕ × ℕ)
  pub skips : List ℕ
  pub rows : List (List (ℕ × ℕ))

abbrev pub pair_lists : List (ℕ × ℕ) → List ℕ → List (List (ℕ × ℕ)) → PairLists
pair_lists by_symbol skips rows =
    record { by_symbol = by_symbol; skips = skips; rows = rows }

-- the row of a symbol, which is empty if there are fewer
abbrev pub row_of : List (List (ℕ × ℕ)) → ℕ → List (ℕ × ℕ)
row_of rows x = slice_index_or rows x []

-- whether the row of the lower of two symbols has the higher one with a `$d` that is active at k
abbrev pub is_active_pair : BlockLists → List (List (ℕ × ℕ)) → ℕ → ℕ → ℕ → Bool
is_active_pair blocks rows x y k =
    if nat_lt x y then is_active_in_row blocks (row_of rows x) y k
    else is_active_in_row blocks (row_of rows y) x k

-- the pairs are in order, their statements have a block, the skips are theirs, and so are the rows
pub record IsWellFormed (blocks : BlockLists) (index : PairLists) : Type 0 where
  pub rising : AreRising index.by_symbol
  pub known : HaveBlocks blocks index.by_symbol
  pub skips_are : AreSkips blocks index.by_symbol index.skips
  pub are_rows : (x : ℕ) → IsRow blocks (row_of index.rows x)

-- each symbol with each wide `$d` that has it, and for each the row of its narrow `$d`
pub record IsDisjointIndex (db : List Statement) (blocks : BlockLists) (index : PairLists) : Type 0
  where
    pub members_are : (x j : ℕ) → has_pair index.by_symbol x j ≡ has_symbol_by_width db false x j
    pub rows_are : (x : ℕ) → IsRowOfPairs blocks (has_narrow_pair db x) (row_of index.rows x)
    pub well_formed : IsWellFormed blocks index
