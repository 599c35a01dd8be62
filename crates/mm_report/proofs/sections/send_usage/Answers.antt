use Rattle.std.proofs.Common.{◌<◌, length, arith, List}
use Rattle.std.proofs.lemmas.List.{take_all}
use Rattle.mm_spec.specs.Text.{Bytes}
use Rattle.mm_report.specs.Rows.{rows_of}
use Rattle.mm_report.proofs.SentLaw.{sent_nothing, sent_both}
use Rattle.mm_report.proofs.UserLaw.{usage_lines_push}
use Rattle.mm_report.proofs.sections.send_usage.Goals as goal

pub loop-column-init : goal.loop-column-init
loop-column-init g c =
    record {
      column_le_columns = omega arith;
      sent = sent_nothing;
    }

pub loop-column-preserved : goal.loop-column-preserved
loop-column-preserved g c =
    let j = c.loop-column.column in
    let labels : List Bytes = c.args.columns.now in
    let labels_as_columns = c.requires.as_many_columns in
    let column_lt_labels : j < length labels = omega (arith, labels_as_columns) in
    let rows = rows_of c.args.matrix.now c.args.labels.now in
    record {
      column_le_columns = omega arith;
      sent =
          rw (usage_lines_push rows labels j column_lt_labels)
          (sent_both c.loop-column.invariant.sent
          (rw c.label.ensures at c.send_usage_line.ensures));
    }

pub returns : goal.returns
returns g c =
    let labels_as_columns = c.requires.as_many_columns in
    rw (take_all c.loop-column.column c.args.columns.now (omega (arith, labels_as_columns)))
    at c.loop-column.invariant.sent
