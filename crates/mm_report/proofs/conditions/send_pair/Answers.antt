use Rattle.mm_report.proofs.SentLaw.{sent_both}
use Rattle.mm_report.proofs.conditions.send_pair.Goals as goal

pub returns : goal.returns
returns g c =
    sent_both (sent_both c.send_spaced.ensures c.send_symbol.ensures) c.send_symbol-2.ensures
