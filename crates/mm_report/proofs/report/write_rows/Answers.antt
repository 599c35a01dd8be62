use Rattle.std.proofs.Common.{◌≡◌, ◌∙◌, ◌++◌, ℕ, List, [], Bool, ap, ap₂, sym, length, map, subst}
use Rattle.std.specs.Prelude.{codes, flat_map, Option}
use Rattle.std.proofs.lemmas.List.{length-map}
use Rattle.mm_spec.specs.Text.{Bytes}
use Rattle.mm_spec.specs.Assertion.{label_at}
use Rattle.mm_spec.specs.Request.{Request}
use Rattle.mm_spec.specs.Report.{report, section, head, line, matrix_line, count_line, usage_lines}
use Rattle.mm_spec.specs.Report.{citation_line}
use Rattle.mm_report.specs.Rows.{rows_of}
use Rattle.mm_report.specs.CitingRows.{citing_rows}
use Rattle.mm_report.specs.Reports.{open_theorem_count}
use Rattle.mm_report.specs.Told.{told_of}
use Rattle.mm_report.proofs.SentLaw.{sent_both, sent_equal_text, written_by_result}
use Rattle.mm_report.proofs.TextLaw.{count_is_rows, labels_as_many_as_rows, without_usage}
use Rattle.mm_report.proofs.TextLaw.{labels_as_many_as_citing}
use Rattle.mm_report.proofs.report.write_rows.Goals as goal

pub send_matrix_and_counts-requires : goal.send_matrix_and_counts-requires
send_matrix_and_counts-requires g c =
    labels_as_many_as_rows c.args.database.now.statements c.args.marked.now c.new-labels.result
    c.new-labels.ensures c.requires.as_many_rows

pub send_citations_section-requires-clause-as_many_labels :
    goal.send_citations_section-requires-clause-as_many_labels
send_citations_section-requires-clause-as_many_labels g c =
    labels_as_many_as_citing c.args.database.now.statements c.args.citations.now
    c.new-labels.result c.new-labels.ensures c.requires.are_citations

pub returns : goal.returns
returns g c =
    let d = c.args.database.now in
    let db = d.statements in
    let m = c.args.marked.now in
    let request = c.args.request.now in
    let opened = c.open_theorem_count-open_theorems.result in
    let opened_is : opened ≡ open_theorem_count request.with_open d c.args.chosen.now =
    subst (λ (r : Request). opened ≡ open_theorem_count r.with_open d c.args.chosen.now)
    c.request.view_is c.open_theorem_count-open_theorems.ensures in
    let labels = c.new-labels.result in
    let column_labels = map (label_at db) c.args.chosen.now in
    let rows = rows_of m labels in
    let citing = citing_rows db request.only c.args.citations.now labels in
    let theorem_count_is =
    count_is_rows m labels c.len-theorems.result c.len-theorems.ensures
    (labels_as_many_as_rows db m labels c.new-labels.ensures c.requires.as_many_rows) in
    let axiom_count_is =
    c.len-axioms.ensures.len_is ∙ sym (length-map c.args.chosen.now (label_at db)) in
    let head_is =
    ap₂ (λ (a b : ℕ). head request.form a opened b) axiom_count_is theorem_count_is in
    let no_usage : section request.sections.usage (codes "usage") (usage_lines rows 0 column_labels)
    ≡ [] =
    ap (λ (b : Bool). section b (codes "usage") (usage_lines rows 0 column_labels))
    c.requires.no_usage in
    let marked_is =
    without_usage (head request.form (length column_labels) opened (length rows))
    (section request.sections.matrix (codes "matrix") (flat_map (matrix_line request.form) rows))
    (section request.sections.counts (codes "counts") (flat_map count_line rows)) _ no_usage in
    let citing_section =
    section request.sections.citations (codes "citations") (flat_map citation_line citing) in
    let told = told_of d request.only in
    let proofs_section = section request.sections.proofs (codes "proofs") told.proofs in
    let statements_section =
    section request.sections.statements (codes "statements") told.statements in
    let report_sent =
    sent_equal_text _
    (ap (λ (x : List ℕ). x ++ citing_section ++ proofs_section ++ statements_section
    ++ line (codes "end")) marked_is
    ∙ ap₂ (λ (o : Option ℕ) (ls : List Bytes). report request o column_labels (rows_of m ls)
    (citing_rows db request.only c.args.citations.now ls) told) opened_is c.new-labels.ensures)
    (sent_both
    (sent_both
    (sent_both
    (sent_both (sent_both (sent_equal_text _ head_is c.send_head.ensures)
    c.send_matrix_and_counts.ensures)
    c.send_citations_section.ensures)
    c.send_proofs_section.ensures)
    c.send_statements_section.ensures)
    c.send_line.ensures) in
    let written =
    written_by_result c.finish.result c.new-sink.ensures report_sent
    c.finish.ensures.sent c.finish.ensures.all_is_written in
    record { report_is_written = written.0; prefix_is_written = written.1 }
