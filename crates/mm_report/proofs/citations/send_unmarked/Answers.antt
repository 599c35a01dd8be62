use Rattle.std.proofs.Common.{ap, ◌∙◌, [], sym, length}
use Rattle.std.specs.Prelude.{slice_index_or}
use Rattle.std.proofs.lemmas.List.FromFn.{length-map-range_with_len}
use Rattle.mm_spec.specs.Request.{Request}
use Rattle.mm_report.specs.CitingRows.{citing_row}
use Rattle.mm_report.proofs.SentLaw.{sent_both}
use Rattle.mm_report.proofs.TextLaw.{labels_as_many_as_citing}
use Rattle.mm_report.proofs.citations.send_unmarked.Goals as goal

pub send_citations_section-requires-clause-as_many_labels :
    goal.send_citations_section-requires-clause-as_many_labels
send_citations_section-requires-clause-as_many_labels g c =
    labels_as_many_as_citing c.args.database.now.statements c.args.citations.now
    c.new-labels.result c.new-labels.ensures c.requires

pub returns : goal.returns
returns g c =
    let d = c.args.database.now in
    let db = d.statements in
    let request = c.args.request.now in
    let opened_is =
    rw (ap (λ (r : Request). r.with_open) c.request.view_is)
    at c.open_theorem_count-open_theorems.ensures in
    let citing = c.args.citations.now in
    let theorem_count_is =
    c.rows-theorems.ensures.count_is
    ∙ sym (length-map-range_with_len
    (λ i. citing_row db request.only citing (slice_index_or c.new-labels.result i []) i) 0
    (length citing.theorems)) in
    rw (sym c.new-labels.ensures)
    (sent_both
    (rw (c.len-axioms.ensures.len_is, theorem_count_is, opened_is) at c.send_head.ensures)
    c.send_citations_section.ensures)
