use Rattle.std.proofs.Common.{length, ◌∙◌}
use Rattle.mm_report.proofs.LabelLaw.{selected_lt_bound}
use Rattle.std.specs.List.{list_any}
use Rattle.mm_spec.specs.Scope.{statement_at}
use Rattle.mm_spec.specs.Output.{is_column}
use Rattle.mm_report.proofs.labels.ColumnLabels.new.Goals as goal

pub invariant_of-result : goal.invariant_of-result
invariant_of-result g c =
    let db = c.args.database.now.statements in
    let columns_of_typecode = c.requires in
    rw (c.statements.ensures.statements_are ∙ columns_of_typecode.1)
    (selected_lt_bound (λ j. list_any (is_column columns_of_typecode.0) (statement_at db j))
    (length db))
