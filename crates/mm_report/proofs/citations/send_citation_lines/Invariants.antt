use Rattle.std.proofs.Common.{◌≤◌, length, map, []}
use Rattle.std.specs.Prelude.{flat_map, slice_index_or}
use Rattle.std.specs.Option.{option_map}
use Rattle.std.specs.List.{range_with_len}
use Rattle.mm_spec.specs.Report.{citation_line}
use Rattle.mm_report.specs.CitingRows.{citing_row}
use Rattle.mm_report.specs.Sent.{Sent}
use Rattle.mm_report.proofs.citations.send_citation_lines.Given as goal

abbrev pub invariant-loop-row : goal.invariant-loop-row
invariant-loop-row g l = record {
  row_le_theorems : l.row ≤ length l.citations.theorems;
  sent : Sent (g.W.Write.contents l.fn.to) (g.W.Write.contents l.to) l.fn.sink l.sink
      (flat_map citation_line
      (map (λ i. citing_row l.database.statements (option_map (λ w. w.now) l.only) l.citations
      (slice_index_or l.labels i []) i) (range_with_len 0 l.row)));
}
