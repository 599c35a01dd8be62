-- Whether a statement's block is open, by the code's lists, is whether the statement is active at
-- the end.
use Rattle.std.proofs.lemmas.Grind.{common_steps}
use Rattle.std.proofs.Common.{◌≡◌, ℕ, ◌<◌, Bool, true, List, [], ◌++◌, length, slice_get, arith}
use Rattle.std.proofs.Common.{le_refl, true≢false}
use Rattle.std.proofs.lemmas.Bool.Decides.{nat_tests}
use Rattle.std.proofs.lemmas.Bool.{lt-ltb}
use Rattle.std.proofs.lemmas.Option.{slice_get-get_or}
use Rattle.mm_spec.specs.Text.{Bytes, is_in}
use Rattle.mm_spec.specs.Statement.{Statement}
use Rattle.mm_spec.specs.Scope.{active_at, is_still_active, variables_of, is_block_open}
use Rattle.mm_outline.specs.Blocks.{BlockLists, IsBlocks, never, is_open_in}
use Rattle.mm_scope.specs.WordEntry.{Latest}
use Rattle.mm_outline.specs.Typed.{typed_words}

-- a statement's block is open at the end exactly if the lists say so
pub block_open_is_open_in : (db : List Statement) (b : BlockLists) → IsBlocks db b
    → length db < never → (j : ℕ)
    → j < length db → is_block_open db j (length db) ≡ is_open_in b j
block_open_is_open_in db b are_blocks db_lt_never j j_lt_length =
    grind (arith, common_steps, le_refl, slice_get-get_or)

-- a statement that declares or types variables is active where its block is open
abbrev pub IsLocal : (Statement → List Bytes) → List ℕ → Type 0
IsLocal f w = (s : Statement) (b : Bool) → is_in w (f s ++ []) ≡ true → is_still_active s b ≡ b

-- a declaration of a variable is active where its block is open
pub declarations_are_local : (w : List ℕ) → IsLocal variables_of w
declarations_are_local w = grind (arith, common_steps, true≢false)

-- a `$f` is active where its block is open
pub typings_are_local : (w : List ℕ) → IsLocal typed_words w
typings_are_local w = grind (arith, common_steps, true≢false)

-- the last statement that has a word is active exactly where its block is open
pub latest_active_is_open : (db : List Statement) (b : BlockLists) → IsBlocks db b
    → length db < never
    → (f : Statement → List Bytes) (w : List ℕ) → IsLocal f w → (last : ℕ) → Latest db f w last
    → active_at db last (length db) ≡ is_open_in b last
latest_active_is_open db b are_blocks db_lt_never f w is_local last latest =
    grind (arith, nat_tests, slice_get, true≢false, lt-ltb, block_open_is_open_in)
