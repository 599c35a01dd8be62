use Rattle.mm_report.proofs.SentLaw.{sent_both}
use Rattle.mm_report.proofs.assertion.send_assertion.Goals as goal

pub returns : goal.returns
returns g c =
    sent_both (sent_both c.send_front.ensures c.send_conditions.ensures) c.send_formula.ensures
