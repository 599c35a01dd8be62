use Rattle.std.proofs.Common.{sym}
use Rattle.mm_report.proofs.SentLaw.{sent_nothing, sent_both}
use Rattle.mm_report.proofs.sections.send_usage_section.Goals as goal

pub returns-then-request : goal.returns-then-request
returns-then-request g c =
    rw (sym c.request.view_is, c.if-request.true)
    (sent_both c.send_line.ensures c.send_usage.ensures)

pub returns-else-request : goal.returns-else-request
returns-else-request g c = rw (sym c.request.view_is, c.if-request.false) sent_nothing
