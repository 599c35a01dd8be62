use Rattle.std.proofs.Common.{◌≤◌, length, map, flat_map}
use Rattle.std.specs.List.{range_with_len}
use Rattle.mm_spec.specs.Comparison.{shift_line}
use Rattle.mm_report.specs.Differences.{shift_row}
use Rattle.mm_report.specs.Sent.{Sent}
use Rattle.mm_report.proofs.differences.send_shift_lines.Given as goal

abbrev pub invariant-loop-row : goal.invariant-loop-row
invariant-loop-row g l = record {
  row_le_count : l.row ≤ length l.lists;
  sent : Sent (g.W.Write.contents l.fn.to) (g.W.Write.contents l.to) l.fn.sink l.sink
      (flat_map shift_line
      (map (shift_row l.database.statements l.lists l.labels) (range_with_len 0 l.row)));
}
