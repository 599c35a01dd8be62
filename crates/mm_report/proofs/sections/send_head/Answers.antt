use Rattle.std.proofs.Common.{codes, ap, sym}
use Rattle.mm_spec.specs.Report.{head_line}
use Rattle.mm_report.proofs.SentLaw.{sent_both, sent_equal_text}
use Rattle.mm_report.proofs.sections.send_head.Goals as goal

pub returns : goal.returns
returns g c =
    rw (sym c.request.view_is)
    (sent_both (sent_both (sent_both (sent_equal_text _ (ap (head_line (codes "mmdepend"))
    c.format_version.ensures) c.send_head_line.ensures) c.send_head_line-2.ensures)
    c.send_open.ensures) c.send_head_line-3.ensures)
