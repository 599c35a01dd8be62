-- The blocks in which statements are.
use Rattle.std.specs.Prelude.{◌≡◌, ℕ, ◌+◌, ◌-◌, ◌<◌, ◌≤◌, List, [], ◌∷◌, ◌++◌, length, take}
use Rattle.std.specs.Prelude.{slice_set, slice_index, slice_get, get_or, nat_eq, nat_le, count_by}
use Rattle.std.specs.Prelude.{◌⊎◌, Bool, false, Option, None, Some}
use Rattle.mm_spec.specs.Statement.{Statement, is_opening, is_closing}
use Rattle.mm_spec.specs.Scope.{depth, is_block_open}
use Rattle.mm_outline.specs.declared.parts.Kind.{Kind}
use Rattle.mm_outline.specs.declared.parts.Kind.TheVariants.{Open, Close}

-- the block of each statement, the end of each block, the open blocks
pub record BlockLists : Type 0 where
  pub block_of : List ℕ
  pub ends : List ℕ
  pub open_blocks : List ℕ

abbrev pub block_lists : List ℕ → List ℕ → List ℕ → BlockLists
block_lists block_of ends open_blocks =
    record { block_of = block_of; ends = ends; open_blocks = open_blocks }

-- the end of a block that is still open: 2 ^ 32 - 1, the largest number of 32 bits
abbrev pub never : ℕ
never = 4294967295

-- the blocks before the first statement: the outermost one alone, which is open
abbrev pub no_blocks : BlockLists
no_blocks = block_lists [] (never ∷ []) (0 ∷ [])

-- the last of the open blocks
abbrev pub innermost : List ℕ → ℕ
innermost open_blocks = slice_index open_blocks (length open_blocks - 1)

-- the blocks after one more statement, of this kind
abbrev pub pushed : Kind → BlockLists → BlockLists
pushed Open blocks =
    block_lists (blocks.block_of ++ innermost blocks.open_blocks ∷ []) (blocks.ends ++ never ∷ [])
    (blocks.open_blocks ++ length blocks.ends ∷ [])
pushed Close blocks =
    block_lists (blocks.block_of ++ innermost blocks.open_blocks ∷ [])
    (slice_set blocks.ends (innermost blocks.open_blocks) (length blocks.block_of))
    (take (length blocks.open_blocks - 1) blocks.open_blocks)
pushed _ blocks =
    block_lists (blocks.block_of ++ innermost blocks.open_blocks ∷ []) blocks.ends
    blocks.open_blocks

-- the end of the block of statement j: the statement that closes it
abbrev pub end_of : BlockLists → ℕ → ℕ
end_of blocks j = get_or blocks.ends (get_or blocks.block_of j 0) 0

abbrev pub is_never : Option ℕ → Bool
is_never None = false
is_never (Some e) = nat_eq e never

-- the end of a block, if the block is known
abbrev pub end_in : List ℕ → Option ℕ → Option ℕ
end_in ends None = None
end_in ends (Some block) = slice_get ends block

-- whether the statement is known and its block is still open
abbrev pub is_open_in : BlockLists → ℕ → Bool
is_open_in blocks j = is_never (end_in blocks.ends (slice_get blocks.block_of j))

-- these are the blocks of the statements
pub record IsBlocks (db : List Statement) (blocks : BlockLists) : Type 0 where
  pub count : length blocks.block_of ≡ length db
  pub ends_le_statements : length blocks.ends ≤ length db + 1
  pub closings_le_openings : count_by is_closing db ≤ count_by is_opening db
  pub stack_size_is : length blocks.open_blocks ≡ depth db (length db) + 1
  pub blocks_have_ends : (j : ℕ) → j < length db → get_or blocks.block_of j 0 < length blocks.ends
  pub open_blocks_have_ends : (l : ℕ) → l < length blocks.open_blocks
      → get_or blocks.open_blocks l 0 < length blocks.ends
  pub open_blocks_are_unended : (l : ℕ) → l < length blocks.open_blocks
      → get_or blocks.ends (get_or blocks.open_blocks l 0) 0 ≡ never
  pub open_blocks_rise : (l m : ℕ) → l < m → m < length blocks.open_blocks
      → get_or blocks.open_blocks l 0 < get_or blocks.open_blocks m 0
  pub unended_is_on_stack : (j : ℕ) → j < length db → end_of blocks j ≡ never
      → (depth db j ≤ depth db (length db))
      × (get_or blocks.open_blocks (depth db j) 0 ≡ get_or blocks.block_of j 0)
  pub open_up_to_end : (j k : ℕ) → j < k → k ≤ length db
      → is_block_open db j k ≡ nat_le k (end_of blocks j)
  pub ends_are_bounded : (j : ℕ) → j < length db
      → (end_of blocks j ≡ never) ⊎ (end_of blocks j < length db)
