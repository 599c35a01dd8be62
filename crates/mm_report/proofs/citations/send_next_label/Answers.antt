use Rattle.mm_report.proofs.SentLaw.{sent_both}
use Rattle.mm_report.proofs.citations.send_next_label.Goals as goal

pub returns-then-is_first_label : goal.returns-then-is_first_label
returns-then-is_first_label g c = rw c.if-is_first_label.true c.send.ensures

pub returns : goal.returns
returns g c =
    rw c.if-is_first_label.false (sent_both c.send_byte.ensures c.send-2.ensures)
