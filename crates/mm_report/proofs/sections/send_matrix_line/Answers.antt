use Rattle.std.proofs.Common.{[], ◌∷◌, ◌++◌, ap, append_assoc}
use Rattle.mm_spec.specs.Report.{matrix_line, cells}
use Rattle.mm_report.specs.Rows.{report_row_of, marks_of}
use Rattle.mm_report.proofs.SentLaw.{sent_both, sent_equal_text}
use Rattle.mm_report.proofs.sections.send_matrix_line.Goals as goal

pub returns : goal.returns
returns g c =
    sent_equal_text (matrix_line c.args.form (report_row_of c.args.marked.now c.args.label.now
    c.args.row)) (ap (λ z. z ++ 10 ∷ []) (append_assoc c.args.label.now (58 ∷ []) (cells c.args.form
    (marks_of c.args.marked.now c.args.row)))) (sent_both (sent_both (sent_both c.send.ensures
    c.send_byte.ensures) c.send_marks.ensures) c.send_byte-2.ensures)
