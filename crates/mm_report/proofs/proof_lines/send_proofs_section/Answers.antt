use Rattle.std.proofs.Common.{◌∙◌, ap, sym}
use Rattle.mm_spec.specs.Request.{Request}
use Rattle.mm_report.proofs.SentLaw.{sent_nothing, sent_both}
use Rattle.mm_report.proofs.proof_lines.send_proofs_section.Goals as goal

pub send_proof_lines-requires : goal.send_proof_lines-requires
send_proof_lines-requires g c =
    c.requires (sym (ap (λ (r : Request). r.sections.proofs) c.request.view_is) ∙ c.if-request.true)

pub returns-then-request : goal.returns-then-request
returns-then-request g c =
    rw (sym c.request.view_is, c.if-request.true)
    (sent_both c.send_line.ensures c.send_proof_lines.ensures)

pub returns-else-request : goal.returns-else-request
returns-else-request g c = rw (sym c.request.view_is, c.if-request.false) sent_nothing
