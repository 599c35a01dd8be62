use Rattle.mm_report.proofs.AssertionLaw.{sent_row}
use Rattle.std.proofs.Common.{◌≡◌, ◌<◌, [], arith, length}
use Rattle.std.specs.Prelude.{slice_index_or}
use Rattle.std.specs.Option.{option_map}
use Rattle.mm_spec.specs.Report.{citation_line}
use Rattle.mm_report.specs.CitingRows.{citing_row}
use Rattle.mm_report.proofs.SentLaw.{sent_nothing}
use Rattle.mm_report.proofs.citations.send_citation_lines.Goals as goal

pub loop-row-init : goal.loop-row-init
loop-row-init g c =
    record {
      row_le_theorems = omega arith;
      sent = sent_nothing;
    }

pub send_citation_line-requires : goal.send_citation_line-requires
send_citation_line-requires g c =
    let row_lt_theorems : c.loop-row.row < length c.args.citations.now.theorems = omega arith in
    rw (c.of.ensures.list_is) (c.requires.are_citations.assertions c.loop-row.row row_lt_theorems)

pub loop-row-preserved : goal.loop-row-preserved
loop-row-preserved g c =
    record {
      row_le_theorems = omega arith;
      sent =
          sent_row citation_line
          (λ k. citing_row c.args.database.now.statements (option_map (λ w. w.now) c.args.only)
          c.args.citations.now (slice_index_or c.args.labels.now k []) k)
          c.loop-row.invariant.sent
          (rw (c.label-label.ensures, c.of.ensures.list_is) at c.send_citation_line.ensures);
    }

pub returns : goal.returns
returns g c =
    let row_is_rows : c.loop-row.row ≡ length c.args.citations.now.theorems = omega arith in
    rw row_is_rows at c.loop-row.invariant.sent
