use Rattle.std.proofs.Common.{◌≤◌, map, []}
use Rattle.std.specs.Prelude.{flat_map, slice_index_or}
use Rattle.std.specs.List.{range_with_len}
use Rattle.mm_spec.specs.Report.{matrix_line}
use Rattle.mm_report.specs.Rows.{report_row_of}
use Rattle.mm_report.specs.Sent.{Sent}
use Rattle.mm_report.proofs.sections.send_matrix.Given as goal

abbrev pub invariant-loop-row : goal.invariant-loop-row
invariant-loop-row g l = record {
  row_le_rows : l.row ≤ l.marked.rows;
  sent : Sent (g.W.Write.contents l.fn.to) (g.W.Write.contents l.to) l.fn.sink l.sink
      (flat_map (matrix_line l.form) (map (λ i. report_row_of l.marked (slice_index_or l.labels i
      []) i) (range_with_len 0 l.row)));
}
