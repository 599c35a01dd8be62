use Rattle.mm_report.proofs.AssertionLaw.{sent_row}
use Rattle.std.proofs.Common.{◌≡◌, ◌<◌, [], arith, length}
use Rattle.std.specs.Prelude.{slice_index_or}
use Rattle.mm_spec.specs.Report.{count_line}
use Rattle.mm_report.specs.Rows.{report_row_of}
use Rattle.mm_report.proofs.SentLaw.{sent_nothing}
use Rattle.mm_report.proofs.sections.send_counts.Goals as goal

pub loop-row-init : goal.loop-row-init
loop-row-init g c =
    record {
      row_le_rows = omega arith;
      sent = sent_nothing;
    }

pub loop-row-preserved : goal.loop-row-preserved
loop-row-preserved g c =
    let row_lt_labels : c.loop-row.row < length c.args.labels.now = omega arith in
    record {
      row_le_rows = omega arith;
      sent =
          sent_row count_line (λ k. report_row_of c.args.marked.now (slice_index_or
          c.args.labels.now k []) k) c.loop-row.invariant.sent (rw c.label.ensures at
          c.send_count_line.ensures);
    }

pub returns : goal.returns
returns g c =
    let row_is_rows : c.loop-row.row ≡ c.args.marked.now.rows = omega arith in
    rw row_is_rows at c.loop-row.invariant.sent
