use Rattle.mm_report.proofs.SentLaw.{sent_both}
use Rattle.mm_report.proofs.differences.send_own.Goals as goal

pub returns : goal.returns
returns g c = sent_both c.send_line.ensures c.send_assertions.ensures
