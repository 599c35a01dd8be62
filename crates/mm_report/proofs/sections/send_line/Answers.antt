use Rattle.mm_report.proofs.SentLaw.{sent_both}
use Rattle.mm_report.proofs.sections.send_line.Goals as goal

pub returns : goal.returns
returns g c = sent_both c.send.ensures c.send_byte.ensures
