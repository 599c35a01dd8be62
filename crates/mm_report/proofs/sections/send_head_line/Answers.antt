use Rattle.std.proofs.Common.{[], ◌∷◌, ◌++◌, ap, append_assoc, decimal}
use Rattle.mm_spec.specs.Report.{head_line}
use Rattle.mm_report.proofs.SentLaw.{sent_both, sent_equal_text}
use Rattle.mm_report.proofs.sections.send_head_line.Goals as goal

pub returns : goal.returns
returns g c =
    sent_equal_text (head_line c.args.name.now c.args.n)
    (ap (λ z. z ++ 10 ∷ []) (append_assoc c.args.name.now (32 ∷ []) (decimal c.args.n)))
    (sent_both
    (sent_both (sent_both c.send.ensures c.send_byte.ensures) c.send_number.ensures)
    c.send_byte-2.ensures)
