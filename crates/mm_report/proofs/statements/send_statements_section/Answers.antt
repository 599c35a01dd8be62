use Rattle.std.proofs.Common.{◌∙◌, ap, length, sym}
use Rattle.mm_tell.specs.Dummies.{dummies_before}
use Rattle.mm_spec.specs.Request.{Request}
use Rattle.mm_report.proofs.SentLaw.{sent_nothing, sent_both}
use Rattle.mm_report.proofs.statements.send_statements_section.Goals as goal

pub send_statement_lines-requires : goal.send_statement_lines-requires
send_statement_lines-requires g c =
    let db = c.args.database.now.statements in
    c.requires
    (sym (ap (λ (r : Request). r.sections.statements) c.request.view_is) ∙ c.if-request.true)
    ∙ ap (λ (r : Request). dummies_before db r.only (length db)) (sym c.request.view_is)

pub returns-then-request : goal.returns-then-request
returns-then-request g c =
    rw (sym c.request.view_is, c.if-request.true)
    (sent_both c.send_line.ensures c.send_statement_lines.ensures)

pub returns-else-request : goal.returns-else-request
returns-else-request g c = rw (sym c.request.view_is, c.if-request.false) sent_nothing
