use Rattle.std.proofs.Common.{◌∙◌, ap, sym}
use Rattle.std.proofs.lemmas.Bool.{and_parts}
use Rattle.std.specs.Option.{option_copied}
use Rattle.mm_spec.specs.Assertion.{assertion_line, is_told}
use Rattle.mm_spec.specs.Output.{is_open_at}
use Rattle.mm_report.proofs.SentLaw.{sent_nothing, sent_equal_text}
use Rattle.mm_report.proofs.AssertionLaw.{selected_text, no_text_unless_selected}
use Rattle.mm_report.proofs.AssertionLaw.{told_have_dummies}
use Rattle.mm_report.proofs.statements.send_if_told.Goals as goal

pub send_assertion-requires-clause-is_assertion : goal.send_assertion-requires-clause-is_assertion
send_assertion-requires-clause-is_assertion g c =
    (and_parts _ _ (sym c.is_told.ensures ∙ c.if-is_told.true)).0

pub send_assertion-requires-clause-have_dummies : goal.send_assertion-requires-clause-have_dummies
send_assertion-requires-clause-have_dummies g c =
    told_have_dummies c.args.database.now.statements (option_copied c.args.only)
    c.args.dummy_lists.now c.args.statement c.requires.are_dummies
    c.requires.statement_lt_length (sym c.is_told.ensures ∙ c.if-is_told.true)

pub returns-then-is_told : goal.returns-then-is_told
returns-then-is_told g c =
    let d = c.args.database.now in
    let db = d.statements in
    let k = c.args.statement in
    sent_equal_text _
    (ap (λ b. assertion_line db b k) c.is_open-is_open.ensures
    ∙ selected_text (λ j. assertion_line db (is_open_at d.read d.with_open j) j)
    (is_told db (option_copied c.args.only)) k (sym c.is_told.ensures ∙ c.if-is_told.true))
    c.send_assertion.ensures

pub returns-else-is_told : goal.returns-else-is_told
returns-else-is_told g c =
    let d = c.args.database.now in
    let db = d.statements in
    sent_equal_text _
    (no_text_unless_selected (λ j. assertion_line db (is_open_at d.read d.with_open j) j)
    (is_told db (option_copied c.args.only)) c.args.statement
    (sym c.is_told.ensures ∙ c.if-is_told.false))
    sent_nothing
