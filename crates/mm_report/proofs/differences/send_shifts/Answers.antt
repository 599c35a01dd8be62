use Rattle.mm_report.proofs.SentLaw.{sent_both}
use Rattle.mm_report.proofs.differences.send_shifts.Goals as goal

pub returns : goal.returns
returns g c =
    sent_both c.send_line.ensures (rw c.new-labels.ensures at c.send_shift_lines.ensures)
