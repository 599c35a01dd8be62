use Rattle.std.proofs.Common.{◌≡◌, take}
use Rattle.std.specs.Option.{option_map}
use Rattle.std.specs.List.{list_any, filter}
use Rattle.mm_spec.specs.Scope.{statement_at}
use Rattle.mm_spec.specs.Assertion.{has_typecode}
use Rattle.mm_rows.proofs.columns.Columns.new.Given as goal

abbrev pub invariant-loop-statement : goal.invariant-loop-statement
invariant-loop-statement g l =
    l.statements.items
    ≡ filter
    (λ j. list_any (has_typecode (option_map (λ w. w.now) l.only))
    (statement_at l.database.statements j)) (take l.statement-index l.axioms)
