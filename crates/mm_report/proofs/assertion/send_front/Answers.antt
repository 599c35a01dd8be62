use Rattle.mm_report.proofs.SentLaw.{sent_both}
use Rattle.mm_report.proofs.assertion.send_front.Goals as goal

pub returns : goal.returns
returns g c =
    let label_sent = rw c.label_of.ensures at c.send.ensures in
    let kind_sent =
    rw (c.kind_letter.ensures, c.is_axiom_at-is_axiom.ensures) at c.send_byte-2.ensures in
    let start_sent = rw c.start_place.ensures at c.send_number.ensures in
    let end_sent = rw c.end_place.ensures at c.send_number-2.ensures in
    sent_both
    (sent_both
    (sent_both
    (sent_both
    (sent_both (sent_both (sent_both label_sent c.send_byte.ensures) kind_sent)
    c.send_byte-3.ensures)
    start_sent)
    c.send_byte-4.ensures)
    end_sent)
    c.send_byte-5.ensures
