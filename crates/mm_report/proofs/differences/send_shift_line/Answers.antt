use Rattle.std.proofs.Common.{◌∙◌, sym}
use Rattle.mm_report.proofs.DifferencesLaw.{some_shift_line}
use Rattle.mm_report.proofs.SentLaw.{sent_equal_text}
use Rattle.mm_report.proofs.differences.send_shift_line.Goals as goal

pub returns-then-not-is_empty : goal.returns-then-not-is_empty
returns-then-not-is_empty g c =
    sent_equal_text _
    (some_shift_line c.args.database.now.statements c.args.label.now c.args.axioms.now c.requires
    (sym c.is_empty.ensures ∙ c.if-not-is_empty.true))
    c.send_citation_line.ensures
