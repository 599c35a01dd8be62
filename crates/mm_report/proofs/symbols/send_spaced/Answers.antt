use Rattle.mm_report.proofs.SentLaw.{sent_both}
use Rattle.mm_report.proofs.symbols.send_spaced.Goals as goal

pub returns : goal.returns
returns g c =
    sent_both c.send_byte.ensures c.send.ensures
