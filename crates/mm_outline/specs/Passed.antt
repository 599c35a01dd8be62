-- Words of a statement that are passed over at once.
use Rattle.std.specs.Prelude.{ℕ, ◌≤◌, List, [], length}
use Rattle.mm_spec.specs.declared.Word.{Word}
use Rattle.mm_outline.specs.Parts.{IsPartBefore, progress}
use Rattle.mm_outline.specs.NextStatement.{Leads, tokens_from}
use Rattle.mm_outline.specs.declared.parts.Part.{Part}

-- The tokens from `from` up to `to` do no more than lengthen the part of a statement that has been
-- read: it is a part at `to` too, and to read on from there gives what reading from `from` gives,
-- however many blocks are open.
pub record ArePassed (text : List ℕ) (ws : List Word) (part : Part) (from to : ℕ) : Type 0 where
  pub from_le_to : from ≤ to
  pub to_le_count : to ≤ length ws
  pub is_part : IsPartBefore part to
  pub leads : (d : ℕ)
      → Leads (progress text ws d part from) (tokens_from text ws from) []
      (progress text ws d part to) (tokens_from text ws to)
