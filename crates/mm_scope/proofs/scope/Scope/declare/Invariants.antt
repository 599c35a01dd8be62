use Rattle.std.proofs.Common.{◌≡◌, ◌+◌, ℕ, List, [], ◌++◌}
use Rattle.mm_spec.specs.Text.{words}
use Rattle.mm_spec.specs.Frame.{first_occurrences}
use Rattle.mm_database.specs.Names.{find, names_of}
use Rattle.mm_outline.specs.Parts.{between}
use Rattle.mm_scope.specs.WordEntry.{after_declaring, entry_of}
use Rattle.mm_scope.specs.Scopes.{AreKnown}
use Rattle.mm_scope.proofs.scope.Scope.declare.Given as goal

abbrev pub invariant-loop-token_index : goal.invariant-loop-token_index
invariant-loop-token_index g l = record {
  labels : (w : List ℕ) → find l.self.names.labels w ≡ find l.initial.self.names.labels w;
  symbols : (w : List ℕ)
      → entry_of (find l.self.names.symbols w)
      ≡ after_declaring l.is_variable l.statement
      (words (between l.text l.tokens (l.fn.outline.keyword + 1) l.token_index)) w
      (entry_of (find l.initial.self.names.symbols w));
  blocks : l.self.blocks ≡ l.initial.self.blocks;
  known : AreKnown l.self;
  names : (d : List (List ℕ)) → names_of l.initial.self.names.symbols ≡ first_occurrences [] d
      → names_of l.self.names.symbols
      ≡ first_occurrences []
      (d ++ words (between l.text l.tokens (l.fn.outline.keyword + 1) l.token_index));
}
