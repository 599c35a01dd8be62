use Rattle.mm_report.proofs.SentLaw.{sent_both}
use Rattle.mm_report.proofs.proof_lines.send_step.Goals as goal

pub returns-in-Marked : goal.returns-in-Marked
returns-in-Marked g c = rw c.in-Marked.is (sent_both c.send_byte.ensures c.send_number.ensures)
