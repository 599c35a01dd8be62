-- Where the statements of a text are, by their shapes alone.
use Rattle.std.specs.Prelude.{◌≡◌, ℕ, ◌+◌, ◌≤◌, List, [], ◌∷◌, length}
use Rattle.mm_spec.specs.declared.Word.{Word}
use Rattle.mm_outline.specs.Parts.{depth_after}
use Rattle.mm_outline.specs.NextStatement.{IsNextStatement}
use Rattle.mm_outline.specs.declared.parts.Outline.{Outline}
use Rattle.mm_outline.specs.declared.parts.NextStatement.TheVariants.{Whole}
use Rattle.mm_outline.specs.declared.parts.NextStatement.TheVariants.{Stopped as StoppedNext}
use Rattle.mm_outline.specs.declared.parts.NextStatement.TheVariants.{Ended as EndedNext}
use Rattle.mm_scope.specs.declared.outlines.OutlinesBefore.{OutlinesBefore}
use Rattle.mm_scope.specs.declared.outlines.Rest.{Rest}
use Rattle.mm_scope.specs.declared.outlines.Rest.TheVariants.{Stopped, Ended}

-- what is found from the token `from` on, where d blocks are open, if no statement is
abbrev pub IsRest : List ℕ → List Word → ℕ → ℕ → Rest → Type 0
IsRest text ws d from (Stopped f) = IsNextStatement text ws d from (StoppedNext f)
IsRest text ws d from (Ended part) = IsNextStatement text ws d from (EndedNext part)

-- the statements that are found one after the other from the token `from` on, where d blocks are
-- open, and then the rest
abbrev pub AreOutlinesFrom : List ℕ → List Word → ℕ → ℕ → List Outline → Rest → Type 0
AreOutlinesFrom text ws d from [] rest = IsRest text ws d from rest
AreOutlinesFrom text ws d from (o ∷ os) rest =
    IsNextStatement text ws d from (Whole o)
    × AreOutlinesFrom text ws (depth_after o.kind d) (o.end + 1) os rest

-- the statements that are found one after the other from the token `from` on, where d blocks are
-- open, up to the token `to`, where e blocks are open
abbrev pub AreOutlinesBetween : List ℕ → List Word → ℕ → ℕ → List Outline → ℕ → ℕ → Type 0
AreOutlinesBetween text ws d from [] e to = (d ≡ e) × (from ≡ to)
AreOutlinesBetween text ws d from (o ∷ os) e to =
    IsNextStatement text ws d from (Whole o)
    × AreOutlinesBetween text ws (depth_after o.kind d) (o.end + 1) os e to

module _ {A : Type 0} where
  -- these are the statements before a token
  pub record AreOutlinesBefore (text : List ℕ) (ws : List Word) (b : OutlinesBefore A) : Type 0
    where
      pub index_le_count : b.token_index ≤ length ws
      pub are_found : AreOutlinesBetween text ws 0 0 b.outlines.items b.depth b.token_index
