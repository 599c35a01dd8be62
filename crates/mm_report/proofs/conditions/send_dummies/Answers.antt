use Rattle.std.proofs.Common.{◌∙◌, sym, eqb-true, length}
use Rattle.std.proofs.lemmas.List.{nil_from_length}
use Rattle.mm_report.proofs.SentLaw.{sent_nothing, sent_both, sent_equal_text}
use Rattle.mm_report.proofs.AssertionLaw.{some_dummies_text}
use Rattle.mm_report.proofs.conditions.send_dummies.Goals as goal

pub returns-then-is_empty : goal.returns-then-is_empty
returns-then-is_empty g c =
    let variables = c.args.variables.now in
    rw (nil_from_length variables
    (eqb-true (length variables) 0 (sym c.is_empty.ensures ∙ c.if-is_empty.true))) sent_nothing

pub returns : goal.returns
returns g c =
    sent_equal_text _
    (some_dummies_text c.args.database.now.statements c.args.variables.now
    (sym c.is_empty.ensures ∙ c.if-is_empty.false))
    (sent_both c.send_spaced.ensures c.send_variables.ensures)
