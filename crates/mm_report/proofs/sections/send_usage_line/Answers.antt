use Rattle.std.proofs.Common.{ℕ, ◌∙◌, [], sym}
use Rattle.std.proofs.lemmas.List.{length-map}
use Rattle.std.specs.Prelude.{slice_index_or}
use Rattle.mm_spec.specs.Text.{Bytes}
use Rattle.mm_spec.specs.Report.{users}
use Rattle.mm_report.specs.Rows.{rows_of}
use Rattle.mm_report.proofs.SentLaw.{sent_both, sent_equal_text, list_line_regrouped}
use Rattle.mm_report.proofs.UserLaw.{separated_rows, users_counted}
use Rattle.mm_report.proofs.sections.send_usage_line.Goals as goal

pub returns : goal.returns
returns g c =
    let labels : ℕ → Bytes = λ i. slice_index_or c.args.labels.now i [] in
    let rows = rows_of c.args.matrix.now c.args.labels.now in
    let count_is =
    c.column_count.ensures
    ∙ users_counted c.args.matrix.now labels c.args.column c.requires.column_lt_count
    c.args.matrix.now.rows
    ∙ sym (length-map (users c.args.column rows) (λ r. r.label)) in
    sent_equal_text _
    (list_line_regrouped c.args.label.now _ (separated_rows (users c.args.column rows)))
    (sent_both
    (sent_both
    (sent_both
    (sent_both (sent_both c.send.ensures c.send_byte.ensures)
    (rw count_is at c.send_number.ensures)) c.send_byte-2.ensures) c.send_users.ensures)
    c.send_byte-3.ensures)
