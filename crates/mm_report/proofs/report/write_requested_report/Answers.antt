use Rattle.mm_report.proofs.SentLaw.{sent_both, written_by_result}
use Rattle.mm_report.proofs.TextLaw.{labels_as_many_as_rows, labels_as_many_as_citing}
use Rattle.mm_report.proofs.report.write_requested_report.Goals as goal

pub send_marked-requires-clause-as_many_labels : goal.send_marked-requires-clause-as_many_labels
send_marked-requires-clause-as_many_labels g c =
    labels_as_many_as_rows c.args.database.now.statements c.args.matrix.now c.new-labels.result
    c.new-labels.ensures c.requires.as_many_rows

pub send_citations_section-requires-clause-as_many_labels :
    goal.send_citations_section-requires-clause-as_many_labels
send_citations_section-requires-clause-as_many_labels g c =
    labels_as_many_as_citing c.args.database.now.statements c.args.citations.now
    c.new-labels.result c.new-labels.ensures c.requires.are_citations

pub returns : goal.returns
returns g c =
    let report_sent =
    rw c.new-labels.ensures at (sent_both
    (sent_both
    (sent_both (sent_both c.send_marked.ensures c.send_citations_section.ensures)
    c.send_proofs_section.ensures)
    c.send_statements_section.ensures)
    c.send_line.ensures) in
    let written =
    written_by_result c.finish.result c.new-sink.ensures report_sent
    c.finish.ensures.sent c.finish.ensures.all_is_written in
    record { report_is_written = written.0; prefix_is_written = written.1 }
