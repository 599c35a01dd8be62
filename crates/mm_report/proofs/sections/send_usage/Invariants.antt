use Rattle.std.proofs.Common.{◌≤◌, take}
use Rattle.mm_spec.specs.Report.{usage_lines}
use Rattle.mm_report.specs.Rows.{rows_of}
use Rattle.mm_report.specs.Sent.{Sent}
use Rattle.mm_report.proofs.sections.send_usage.Given as goal

abbrev pub invariant-loop-column : goal.invariant-loop-column
invariant-loop-column g l = record {
  column_le_columns : l.column ≤ l.matrix.columns;
  sent : Sent (g.W.Write.contents l.fn.to) (g.W.Write.contents l.to) l.fn.sink l.sink
      (usage_lines (rows_of l.matrix l.labels) 0 (take l.column l.columns));
}
