-- The statements that are found in a stretch of the tokens, however many blocks are open before it.
use Rattle.std.specs.Prelude.{ℕ, zero, suc, ◌+◌, ◌≤◌, List, length}
use Rattle.mm_spec.specs.declared.Word.{Word}
use Rattle.mm_outline.specs.declared.parts.Kind.{Kind}
use Rattle.mm_outline.specs.declared.parts.Kind.TheVariants.{Open, Close}
use Rattle.mm_scope.specs.Outlines.{AreOutlinesBetween}
use Rattle.mm_scope.specs.declared.stretches.StretchBlocks.{StretchBlocks}
use Rattle.mm_scope.specs.declared.stretches.StretchOutlines.{StretchOutlines}

-- how many blocks are closed and opened, if that many are before a `$}`
abbrev pub blocks_with_closing : ℕ → ℕ → StretchBlocks
blocks_with_closing closed zero = record { closed = suc closed; opened = 0 }
blocks_with_closing closed (suc opened) = record { closed = closed; opened = opened }

-- the same before a statement of this kind
abbrev pub blocks_with : StretchBlocks → Kind → StretchBlocks
blocks_with b Open = record { closed = b.closed; opened = suc b.opened }
blocks_with b Close = blocks_with_closing b.closed b.opened
blocks_with b _ = b

module _ {A : Type 0} where
  -- these are the statements between two tokens, if as many blocks are open before them as they
  -- close, or more
  pub record IsStretch (text : List ℕ) (ws : List Word) (s : StretchOutlines A) : Type 0 where
    pub to_le_count : s.to ≤ length ws
    pub are_found : (more : ℕ)
        → AreOutlinesBetween text ws (s.blocks.closed + more) s.from s.outlines.items
        (s.blocks.opened + more) s.to
