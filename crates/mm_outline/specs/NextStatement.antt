-- How reading continues, and what is found where a statement should begin.
use Rattle.std.specs.Prelude.{◌≡◌, ℕ, ◌+◌, ◌<◌, ◌≤◌, Bool, true, false, List, [], ◌∷◌, ◌++◌, length}
use Rattle.std.specs.Prelude.{drop, None, Some}
use Rattle.mm_spec.specs.Text.{Token}
use Rattle.mm_spec.specs.Statement.{Statement}
use Rattle.mm_spec.specs.Laws.Table.{Progress, start, statements_from, shape_fault_from}
use Rattle.mm_spec.specs.Laws.Table.{progress_from}
use Rattle.mm_spec.specs.declared.Word.{Word}
use Rattle.mm_outline.specs.Parts.{as_tokens, statement_of, progress, depth_after, IsOutline}
use Rattle.mm_outline.specs.declared.parts.Part.{Part}
use Rattle.mm_outline.specs.declared.parts.Part.TheVariants.{Start}
use Rattle.mm_outline.specs.declared.parts.NextStatement.{NextStatement}
use Rattle.mm_outline.specs.declared.parts.NextStatement.TheVariants.{Whole, Stopped, Ended}

-- Read from `before` on, the tokens us give the statements `found`, and then what the tokens vs
-- give, read from `after` on.
pub record Leads (before : Progress) (us : List Token) (found : List Statement) (after : Progress)
    (vs : List Token) : Type 0 where
  pub statements : statements_from before us ≡ found ++ statements_from after vs
  pub fault_stays : shape_fault_from before us ≡ shape_fault_from after vs
  pub progress_stays : progress_from before us ≡ progress_from after vs

-- the tokens from the index i on
abbrev pub tokens_from : List ℕ → List Word → ℕ → List Token
tokens_from text ws i = as_tokens text (drop i ws)

-- the tokens from `from` up to `end` spell one statement; d blocks are open before it, and
-- `new_depth` after it
pub record IsWhole (text : List ℕ) (ws : List Word) (d from new_depth : ℕ) (s : Statement)
    (end : ℕ) : Type 0 where
  pub from_le_end : from ≤ end
  pub end_lt_count : end < length ws
  pub leads : Leads (start d) (tokens_from text ws from) (s ∷ []) (start new_depth)
      (tokens_from text ws (end + 1))

-- what is found from the token `from` on, where d blocks are open
abbrev pub IsNextStatement : List ℕ → List Word → ℕ → ℕ → NextStatement → Type 0
IsNextStatement text ws d from (Whole o) =
    IsOutline o × IsWhole text ws d from (depth_after o.kind d) (statement_of text ws o) o.end
IsNextStatement text ws d from (Stopped f) =
    (statements_from (start d) (tokens_from text ws from) ≡ [])
    × (shape_fault_from (start d) (tokens_from text ws from) ≡ Some f)
IsNextStatement text ws d from (Ended part) =
    (statements_from (start d) (tokens_from text ws from) ≡ [])
    × (shape_fault_from (start d) (tokens_from text ws from) ≡ None)
    × (progress_from (start d) (tokens_from text ws from) ≡ progress text ws d part (length ws))

-- whether nothing has been read
abbrev pub is_start : Part → Bool
is_start Start = true
is_start _ = false
