use Rattle.mm_report.proofs.SentLaw.{sent_both, written_by_result}
use Rattle.mm_report.proofs.refusal.write_refusal_after.Goals as goal

pub returns : goal.returns
returns g c =
    let written =
    written_by_result c.finish.result c.new-sink.ensures
    (sent_both c.send.ensures c.send_refusal.ensures)
    c.finish.ensures.sent c.finish.ensures.all_is_written in
    record { refusal_is_written = written.0; prefix_is_written = written.1 }
