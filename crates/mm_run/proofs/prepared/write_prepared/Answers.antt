use Rattle.std.proofs.lemmas.Result.{on_ok_weaker, on_err_weaker}
use Rattle.mm_report.specs.CitingRows.{citing_rows_of}
use Rattle.mm_report.specs.Reports.{report_of, unmarked_report_of}
use Rattle.mm_run.proofs.ReportLaw.{marks_are_output, unmarked_is_output}
use Rattle.mm_run.proofs.CitationsLaw.{are_citations_of}
use Rattle.mm_run.proofs.prepared.write_prepared.Goals as goal

pub write_without_marks-requires-clause-are_citations :
    goal.write_without_marks-requires-clause-are_citations
write_without_marks-requires-clause-are_citations g c =
    are_citations_of c.args.database.now.statements c.args.request.now c.args.citations.now
    c.requires.is_faultless.have_citations

pub write_rows-requires-clause-are_citations : goal.write_rows-requires-clause-are_citations
write_rows-requires-clause-are_citations g c =
    are_citations_of c.args.database.now.statements c.args.request.now c.args.citations.now
    c.requires.is_faultless.have_citations

pub write_requested_report-requires-clause-are_citations :
    goal.write_requested_report-requires-clause-are_citations
write_requested_report-requires-clause-are_citations g c =
    are_citations_of c.args.database.now.statements c.args.request.now c.args.citations.now
    c.requires.is_faultless.have_citations

pub returns-in-NoSection : goal.returns-in-NoSection
returns-in-NoSection g c =
    let d = c.args.database.now in
    let request = c.args.request.now in
    let citing = c.args.citations.now in
    let chosen = c.args.prepared.now.chosen in
    let bytes = unmarked_report_of request d chosen (citing_rows_of request d citing) in
    let no_marks = rw c.in-NoSection.is at c.requires.is_prepared.are_marks in
    let is_output =
    unmarked_is_output request d citing chosen c.requires.is_faultless
    c.requires.is_prepared.columns_are no_marks in
    record {
      report_is_written =
          on_ok_weaker c.write_without_marks.result (λ appended. (bytes, is_output, appended))
          c.write_without_marks.ensures.report_is_written;
      prefix_is_written =
          on_err_weaker c.write_without_marks.result
          (λ appended. (bytes, appended.0, is_output, appended.1))
          c.write_without_marks.ensures.prefix_is_written;
    }

pub returns-in-Rows : goal.returns-in-Rows
returns-in-Rows g c =
    let d = c.args.database.now in
    let request = c.args.request.now in
    let citing = c.args.citations.now in
    let chosen = c.args.prepared.now.chosen in
    let marked = c.in-Rows.marked in
    let bytes = report_of request d chosen marked (citing_rows_of request d citing) in
    let are_marks = rw c.in-Rows.is at c.requires.is_prepared.are_marks in
    let is_output =
    marks_are_output request d citing chosen marked c.requires.is_faultless
    c.requires.is_prepared.columns_are are_marks.1 in
    record {
      report_is_written =
          on_ok_weaker c.write_rows.result (λ appended. (bytes, is_output, appended))
          c.write_rows.ensures.report_is_written;
      prefix_is_written =
          on_err_weaker c.write_rows.result
          (λ appended. (bytes, appended.0, is_output, appended.1))
          c.write_rows.ensures.prefix_is_written;
    }

pub returns-in-Usage : goal.returns-in-Usage
returns-in-Usage g c =
    let d = c.args.database.now in
    let request = c.args.request.now in
    let citing = c.args.citations.now in
    let chosen = c.args.prepared.now.chosen in
    let matrix = c.in-Usage.matrix in
    let bytes = report_of request d chosen matrix (citing_rows_of request d citing) in
    let is_matrix = rw c.in-Usage.is at c.requires.is_prepared.are_marks in
    let is_output =
    marks_are_output request d citing chosen matrix c.requires.is_faultless
    c.requires.is_prepared.columns_are is_matrix in
    record {
      report_is_written =
          on_ok_weaker c.write_requested_report.result (λ appended. (bytes, is_output, appended))
          c.write_requested_report.ensures.report_is_written;
      prefix_is_written =
          on_err_weaker c.write_requested_report.result
          (λ appended. (bytes, appended.0, is_output, appended.1))
          c.write_requested_report.ensures.prefix_is_written;
    }
