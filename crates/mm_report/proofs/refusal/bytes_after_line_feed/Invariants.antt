use Rattle.std.proofs.Common.{◌≤◌, ◌≡◌, drop}
use Rattle.mm_spec.specs.Report.{bytes_after_line_feed_from, bytes_after_line_feed}
use Rattle.mm_report.proofs.refusal.bytes_after_line_feed.Given as goal

abbrev pub invariant-loop-b : goal.invariant-loop-b
invariant-loop-b l =
    record {
      rest_has_value : bytes_after_line_feed_from l.count (drop l.b-index l.bytes)
          ≡ bytes_after_line_feed l.bytes;
      count_le_index : l.count ≤ l.b-index;
    }
