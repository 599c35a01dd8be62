use Rattle.std.proofs.Common.{◌++◌, sym, subst}
use Rattle.std.specs.Io.KnownBytes.{Appends}
use Rattle.std.proofs.KnownBytes.{Appends-trans}
use Rattle.mm_run.proofs.ReportLaw.{has_output}
use Rattle.mm_against.proofs.WrittenLaw.{begun_behind, comparison_broken_off, with_report}
use Rattle.mm_against.proofs.comparison.compare_and_report.Goals as goal

pub returns-in-Ok-write_prepared : goal.returns-in-Ok-write_prepared
returns-in-Ok-write_prepared g c =
    let compared = c.in-Compared.ensures in
    let reported = c.in-Ok-write_prepared.ensures.report_is_written in (
      compared.0,
      compared.1,
      (
        compared.2.0 ++ reported.0,
        with_report c.args.old_database.now.text c.args.new_database.now.text c.args.request.now
            compared.2.0 reported.0 compared.0 compared.1 compared.2.1 reported.1,
        Appends-trans _ _ _ _ _ compared.2.2 reported.2,
      ),
    )

pub returns-in-Compared : goal.returns-in-Compared
returns-in-Compared g c =
    let compared = c.in-Compared.ensures in
    let begun = c.in-Err.ensures.prefix_is_written in
    let behind = begun_behind compared.2.0 begun.0 begun.1 in (
      compared.2.0 ++ begun.0,
      behind.0,
      with_report c.args.old_database.now.text c.args.new_database.now.text c.args.request.now
          compared.2.0 begun.0 compared.0 compared.1 compared.2.1 begun.2,
      subst (Appends _ _) (sym behind.1) (Appends-trans _ _ _ _ _ compared.2.2 begun.3),
    )

pub returns : goal.returns
returns g c =
    let new = c.args.new_database.now in
    let request = c.args.request.now in
    let is_faultless = c.requires.new_is_faultless in
    let output = has_output request new c.args.new_citations.now is_faultless in
    comparison_broken_off c.compare.result request c.args.old_database.now.text new.text output.0 _
    _ c.in_default-compare.not-Compared (new.read, is_faultless.has_no_fault) output.1
    c.compare.ensures
