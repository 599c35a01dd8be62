use Rattle.std.proofs.Common.{◌∙◌, map, sym}
use Rattle.std.specs.Option.{option_map}
use Rattle.std.proofs.lemmas.List.{length-map}
use Rattle.mm_spec.specs.Assertion.{label_at}
use Rattle.mm_spec.specs.Report.{separated}
use Rattle.mm_report.specs.CitingRows.{listed}
use Rattle.mm_report.proofs.SentLaw.{sent_both, sent_equal_text, list_line_regrouped}
use Rattle.mm_report.proofs.citations.send_citation_line.Goals as goal

pub returns : goal.returns
returns g c =
    let db = c.args.database.now.statements in
    let xs = listed db (option_map (λ w. w.now) c.args.only) c.args.cited.now in
    let count_is = c.listed_count.ensures ∙ sym (length-map xs (label_at db)) in
    sent_equal_text _ (list_line_regrouped c.args.label.now _ (separated (map (label_at db) xs)))
    (sent_both
    (sent_both
    (sent_both
    (sent_both (sent_both c.send.ensures c.send_byte.ensures)
    (rw count_is at c.send_number.ensures)) c.send_byte-2.ensures) c.send_cited.ensures)
    c.send_byte-3.ensures)
