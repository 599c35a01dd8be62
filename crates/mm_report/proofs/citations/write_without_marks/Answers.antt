use Rattle.mm_report.proofs.SentLaw.{sent_both, written_by_result}
use Rattle.mm_report.proofs.citations.write_without_marks.Goals as goal

pub returns : goal.returns
returns g c =
    let report_sent =
    sent_both
    (sent_both (sent_both c.send_unmarked.ensures c.send_proofs_section.ensures)
    c.send_statements_section.ensures)
    c.send_line.ensures in
    let written =
    written_by_result c.finish.result c.new-sink.ensures report_sent
    c.finish.ensures.sent c.finish.ensures.all_is_written in
    record { report_is_written = written.0; prefix_is_written = written.1 }
