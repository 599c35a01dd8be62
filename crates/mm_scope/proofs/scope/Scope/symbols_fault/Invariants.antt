use Rattle.std.proofs.Common.{◌≡◌, []}
use Rattle.mm_spec.specs.Lawful.{least, faults_at_each, symbol_codes}
use Rattle.mm_spec.specs.Scope.{Names}
use Rattle.mm_outline.specs.Parts.{between}
use Rattle.mm_scope.specs.Scopes.{AreNamesOf}
use Rattle.mm_scope.proofs.scope.Scope.symbols_fault.Given as goal

abbrev pub invariant-loop-token_index : goal.invariant-loop-token_index
invariant-loop-token_index g l =
    (n : Names) → AreNamesOf l.self n
    → l.least_found ≡ least (faults_at_each (symbol_codes n) []
    (between l._text l.tokens l.from l.token_index))
