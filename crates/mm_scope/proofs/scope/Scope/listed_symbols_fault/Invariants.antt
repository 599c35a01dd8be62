use Rattle.std.proofs.Common.{◌≡◌, [], ℕ, List, is_some, false}
use Rattle.mm_spec.specs.Text.{is_in, words}
use Rattle.mm_spec.specs.Lawful.{least, faults_at_each}
use Rattle.mm_spec.specs.Scope.{Names}
use Rattle.mm_database.specs.Names.{find}
use Rattle.mm_outline.specs.Parts.{between}
use Rattle.mm_scope.specs.Knows.{listed_codes}
use Rattle.mm_scope.specs.Scopes.{AreNamesOf}
use Rattle.mm_scope.proofs.scope.Scope.listed_symbols_fault.Given as goal

abbrev pub invariant-loop-token_index : goal.invariant-loop-token_index
invariant-loop-token_index g l = record {
  seen : l.are_ascending ≡ false → l.is_short ≡ false → (w : List ℕ)
      → is_some (find l.seen w)
      ≡ is_in w (words (between l.text l.tokens l.from l.token_index));
  least : (n : Names) → AreNamesOf l.self n
      → l.least_found ≡ least (faults_at_each (listed_codes n l.kind) []
      (between l.text l.tokens l.from l.token_index));
}
