use Rattle.std.proofs.Common.{◌≡◌, ◌∙◌, ◌++◌, ℕ, List, ap, ap₂, length, subst}
use Rattle.std.specs.Prelude.{codes, flat_map, Option}
use Rattle.std.proofs.lemmas.List.{length-map}
use Rattle.mm_spec.specs.Text.{Bytes}
use Rattle.mm_spec.specs.Request.{Request}
use Rattle.mm_spec.specs.Assertion.{label_at}
use Rattle.mm_spec.specs.Report.{section, head, matrix_line, count_line, usage_lines}
use Rattle.mm_rows.specs.Marks.{Marks}
use Rattle.mm_report.specs.Rows.{rows_of}
use Rattle.mm_report.specs.Reports.{open_theorem_count, marked_part}
use Rattle.mm_report.proofs.SentLaw.{sent_both, sent_equal_text}
use Rattle.mm_report.proofs.TextLaw.{count_is_rows, sections_regrouped}
use Rattle.mm_report.proofs.report.send_marked.Goals as goal

pub send_matrix_and_counts-requires : goal.send_matrix_and_counts-requires
send_matrix_and_counts-requires g c = rw c.marked.ensures c.requires.as_many_labels

pub send_usage_section-requires-clause-as_many_columns :
    goal.send_usage_section-requires-clause-as_many_columns
send_usage_section-requires-clause-as_many_columns g c =
    ap (λ (ls : List Bytes). length ls) c.new-columns.ensures
    ∙ length-map c.args.chosen.now (label_at c.args.database.now.statements)
    ∙ c.requires.as_many_columns

pub returns : goal.returns
returns g c =
    let d = c.args.database.now in
    let m = c.args.matrix.now in
    let request = c.args.request.now in
    let opened = c.open_theorem_count-open_theorems.result in
    let opened_is : opened ≡ open_theorem_count request.with_open d c.args.chosen.now =
    subst (λ (r : Request). opened ≡ open_theorem_count r.with_open d c.args.chosen.now)
    c.request.view_is c.open_theorem_count-open_theorems.ensures in
    let labels = c.args.labels.now in
    let column_labels = c.new-columns.result in
    let rows = rows_of m labels in
    let theorem_count_is =
    count_is_rows m labels c.len-theorems.result c.len-theorems.ensures
    c.requires.as_many_labels in
    let head_is =
    ap₂ (λ (a b : ℕ). head request.form a opened b) c.len-axioms.ensures theorem_count_is in
    let matrix = λ (x : Marks).
    section request.sections.matrix (codes "matrix")
    (flat_map (matrix_line request.form) (rows_of x labels)) in
    let counts = λ (x : Marks).
    section request.sections.counts (codes "counts") (flat_map count_line (rows_of x labels)) in
    let rows_sent =
    sent_equal_text (matrix m ++ counts m)
    (ap (λ (x : Marks). matrix x ++ counts x) c.marked.ensures)
    c.send_matrix_and_counts.ensures in
    sent_equal_text _
    (sections_regrouped (head request.form (length column_labels) opened (length rows)) (matrix m)
    (counts m)
    (section request.sections.usage (codes "usage") (usage_lines rows 0 column_labels))
    ∙ ap₂ (λ (o : Option ℕ) (ls : List Bytes). marked_part request o ls rows) opened_is
    c.new-columns.ensures)
    (sent_both (sent_both (sent_equal_text _ head_is c.send_head.ensures) rows_sent)
    c.send_usage_section.ensures)
