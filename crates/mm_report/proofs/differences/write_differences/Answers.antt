use Rattle.mm_report.proofs.SentLaw.{sent_both, written_by_result}
use Rattle.mm_report.proofs.differences.write_differences.Goals as goal

pub returns : goal.returns
returns g c =
    let sent =
    sent_both
    (sent_both
    (sent_both
    (sent_both (sent_both c.send_head_line.ensures c.send_own.ensures) c.send_own-2.ensures)
    c.send_shifts.ensures)
    c.send_shifts-2.ensures)
    c.send_line.ensures in
    let written =
    written_by_result c.finish.result c.new-sink.ensures sent c.finish.ensures.sent
    c.finish.ensures.all_is_written in
    record { differences_are_written = written.0; prefix_is_written = written.1 }
