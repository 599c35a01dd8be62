use Rattle.std.proofs.Common.{◌≡◌, ◌∙◌, ◌++◌, List, ℕ, [], None, ap, map, refl, sym, rules}
use Rattle.std.proofs.Common.{append-nil, append_assoc}
use Rattle.std.specs.Prelude.{codes}
use Rattle.mm_spec.specs.Text.{Bytes}
use Rattle.mm_spec.specs.Assertion.{label_at}
use Rattle.mm_spec.specs.Report.{ToldLines, report, section, line}
use Rattle.mm_report.specs.Rows.{rows_of}
use Rattle.mm_report.specs.Reports.{marked_part, open_theorem_count, sections_of, text_request}
use Rattle.mm_report.specs.Told.{told_of}
use Rattle.mm_report.specs.Sent.{Sent}
use Rattle.mm_report.specs.declared.choices.Choice.{Choice}
use Rattle.mm_report.specs.declared.choices.Choice.TheVariants.{All, Matrix, Counts, Usage}
use Rattle.mm_report.specs.declared.choices.Choice.TheVariants.{Citations}
use Rattle.mm_report.proofs.SentLaw.{sent_both, sent_equal_text, written_by_result}
use Rattle.mm_report.proofs.TextLaw.{labels_as_many_as_rows}
use Rattle.mm_report.proofs.report.write_report.Goals as goal

-- a choice has none of the sections that come after those of marks
marks_alone : (choice : Choice) (citing : List ℕ) (told : ToldLines)
    → section (sections_of choice).citations (codes "citations") citing
    ++ section (sections_of choice).proofs (codes "proofs") told.proofs
    ++ section (sections_of choice).statements (codes "statements") told.statements
    ≡ []
marks_alone All citing told = refl
marks_alone Matrix citing told = refl
marks_alone Counts citing told = refl
marks_alone Usage citing told = refl
marks_alone Citations citing told = refl

pub send_marked-requires-clause-as_many_labels : goal.send_marked-requires-clause-as_many_labels
send_marked-requires-clause-as_many_labels g c =
    labels_as_many_as_rows c.args.database.now.statements c.args.matrix.now c.new-labels.result
    c.new-labels.ensures c.requires.as_many_rows

pub returns : goal.returns
returns g c =
    let d = c.args.database.now in
    let db = d.statements in
    let request = text_request None c.args.with_open c.args.form (sections_of c.args.choice) in
    let columns = c.args.chosen.now in
    let opened = open_theorem_count request.with_open d columns in
    let names = map (label_at db) columns in
    let m = c.args.matrix.now in
    let marked = marked_part request opened names (rows_of m c.new-labels.result) in
    let told = told_of d request.only in
    let citing_section = section request.sections.citations (codes "citations") [] in
    let proofs_section = section request.sections.proofs (codes "proofs") told.proofs in
    let statements_section =
    section request.sections.statements (codes "statements") told.statements in
    let marked_sent : Sent (g.W.Write.contents c.args.to.now) (g.W.Write.contents
    c.send_marked.new.to)
    c.new-sink.result c.send_marked.new.sink marked = search rules in
    let report_sent =
    sent_equal_text _
    (ap (λ (x : List ℕ). x ++ line (codes "end"))
    (sym (append-nil marked)
    ∙ ap (λ (x : List ℕ). marked ++ x) (sym (marks_alone c.args.choice [] told))
    ∙ sym (append_assoc marked (citing_section ++ proofs_section) statements_section)
    ∙ ap (λ (x : List ℕ). x ++ statements_section)
    (sym (append_assoc marked citing_section proofs_section)))
    ∙ ap (λ (ls : List Bytes). report request opened names (rows_of m ls) [] told)
    c.new-labels.ensures)
    (sent_both marked_sent c.send_line.ensures) in
    let written =
    written_by_result c.finish.result c.new-sink.ensures report_sent
    c.finish.ensures.sent c.finish.ensures.all_is_written in
    record { report_is_written = written.0; prefix_is_written = written.1 }
