use Rattle.std.proofs.Common.{◌≤◌, ◌-◌, [], length}
use Rattle.mm_spec.specs.Laws.Table.{start}
use Rattle.mm_outline.specs.Parts.{IsPartBefore, progress}
use Rattle.mm_outline.specs.NextStatement.{Leads, tokens_from}
use Rattle.mm_outline.proofs.parts.next_statement.Given as goal

abbrev pub invariant-loop-token_index : goal.invariant-loop-token_index
invariant-loop-token_index l = record {
  is_part : IsPartBefore l.part l.token_index;
  from_le_index : l.from ≤ l.token_index;
  index_le_count : l.token_index ≤ length l.tokens;
  leads : Leads (start l.depth) (tokens_from l.text l.tokens l.from) []
      (progress l.text l.tokens l.depth l.part l.token_index) (tokens_from l.text l.tokens
      l.token_index);
}

abbrev pub decreases-loop-token_index : goal.decreases-loop-token_index
decreases-loop-token_index l = length l.tokens - l.token_index
