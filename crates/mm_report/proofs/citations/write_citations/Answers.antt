use Rattle.std.proofs.Common.{◌∙◌, ◌++◌, List, [], ℕ, ap, sym, append-nil, rules, true}
use Rattle.std.specs.Prelude.{codes}
use Rattle.std.specs.Option.{option_copied}
use Rattle.mm_spec.specs.Report.{line}
use Rattle.mm_spec.specs.Request.{no_sections}
use Rattle.mm_report.specs.CitingRows.{citing_rows_of}
use Rattle.mm_report.specs.Reports.{unmarked_part, text_request}
use Rattle.mm_report.specs.Sent.{Sent}
use Rattle.mm_report.proofs.SentLaw.{sent_both, sent_equal_text, written_by_result}
use Rattle.mm_report.proofs.citations.write_citations.Goals as goal

pub returns : goal.returns
returns g c =
    let d = c.args.database.now in
    let request =
    text_request (option_copied c.args.only) c.args.with_open c.args.form
    (record no_sections { citations = true }) in
    let part =
    unmarked_part request d c.args.chosen.now (citing_rows_of request d c.args.citations.now) in
    let part_sent : Sent (g.W.Write.contents c.args.to.now) (g.W.Write.contents
    c.send_unmarked.new.to)
    c.new-sink.result c.send_unmarked.new.sink part = search rules in
    let report_sent =
    sent_equal_text _
    (ap (λ (x : List ℕ). x ++ line (codes "end"))
    (sym (append-nil part) ∙ sym (append-nil (part ++ []))))
    (sent_both part_sent c.send_line.ensures) in
    let written =
    written_by_result c.finish.result c.new-sink.ensures report_sent
    c.finish.ensures.sent c.finish.ensures.all_is_written in
    record { report_is_written = written.0; prefix_is_written = written.1 }
