use Rattle.std.proofs.Common.{◌≡◌, ◌++◌, ◌&&◌, take, map}
use Rattle.std.specs.List.{list_any}
use Rattle.mm_spec.specs.Scope.{statement_at}
use Rattle.mm_spec.specs.Frame.{is_essential}
use Rattle.mm_check.proofs.essential.push_flags.Given as goal

abbrev pub invariant-loop-hypothesis : goal.invariant-loop-hypothesis
invariant-loop-hypothesis g l =
    l.entry_flags.items ≡ l.initial.entry_flags.items
    ++ map (λ h. l.is_essential && list_any is_essential (statement_at l.database.statements h))
    (take l.hypothesis-index l.hypothesis-items)
