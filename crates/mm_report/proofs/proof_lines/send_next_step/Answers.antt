use Rattle.mm_report.proofs.SentLaw.{sent_both}
use Rattle.mm_report.proofs.proof_lines.send_next_step.Goals as goal
use Rattle.mm_report.proofs.proof_lines.send_next_step.Goals.{then-not-is_first_step}
use Rattle.mm_report.proofs.proof_lines.send_next_step.Goals.{else-not-is_first_step}

pub returns : goal.returns
returns g c = elim c.if-not-is_first_step.branch [
  | then-not-is_first_step w ↦
      let step_sent = rw (w.sink-is, w.to-is) at c.send_step.ensures in
      rw w.if-not-is_first_step.true (sent_both w.send_byte.ensures step_sent)
  | else-not-is_first_step w ↦
      let step_sent = rw (w.sink-is, w.to-is) at c.send_step.ensures in
      rw w.if-not-is_first_step.false step_sent
]
