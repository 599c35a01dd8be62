use Rattle.std.proofs.Common.{ℕ, [], ◌∷◌, ◌++◌, ap, ◌∙◌, append_assoc, decimal}
use Rattle.mm_spec.specs.Report.{count_line}
use Rattle.mm_report.specs.Rows.{report_row_of}
use Rattle.mm_report.proofs.SentLaw.{sent_both, sent_equal_text, marks_counted}
use Rattle.mm_report.proofs.sections.send_count_line.Goals as goal

pub returns : goal.returns
returns g c =
    let row_count_is = c.row_count.ensures ∙ marks_counted c.args.marked.now c.args.row in
    sent_equal_text (count_line (report_row_of c.args.marked.now c.args.label.now c.args.row)) (ap
    (λ z. z ++ 10 ∷ []) (append_assoc c.args.label.now (58 ∷ []) (decimal c.row_count.result) ∙ ap
    (λ (k : ℕ). c.args.label.now ++ 58 ∷ decimal k) row_count_is)) (sent_both (sent_both (sent_both
    c.send.ensures c.send_byte.ensures) c.send_number.ensures) c.send_byte-2.ensures)
