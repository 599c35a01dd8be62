use Rattle.std.proofs.Common.{◌≡◌, ◌≤◌, ◌&&◌, take, count_by}
use Rattle.std.specs.List.{list_any}
use Rattle.mm_spec.specs.Opened.{is_open_theorem}
use Rattle.mm_spec.specs.Scope.{statement_at}
use Rattle.mm_report.proofs.open_theorems.count_open_theorems.Given as goal

abbrev pub invariant-loop-statement : goal.invariant-loop-statement
invariant-loop-statement g l = record {
  count_le_index : l.count ≤ l.statement-index;
  count_is : l.count
      ≡ count_by (λ a. l.database.with_open && list_any is_open_theorem
      (statement_at l.database.read a))
      (take l.statement-index l.chosen);
}
