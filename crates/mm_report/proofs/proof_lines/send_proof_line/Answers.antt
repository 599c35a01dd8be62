use Rattle.std.proofs.Common.{◌∙◌, map, sym}
use Rattle.std.proofs.lemmas.List.{length-map}
use Rattle.mm_spec.specs.Report.{separated}
use Rattle.mm_spec.specs.ProofLine.{step_text}
use Rattle.mm_steps.specs.TheoremSteps.{as_step}
use Rattle.mm_report.proofs.SentLaw.{sent_both, sent_equal_text, list_line_regrouped}
use Rattle.mm_report.proofs.proof_lines.send_proof_line.Goals as goal

pub returns : goal.returns
returns g c =
    let db = c.args.database.now.statements in
    let steps = c.args.steps.now in
    let texts = map (step_text db) (map as_step steps) in
    let count_is =
    sym (length-map steps as_step) ∙ sym (length-map (map as_step steps) (step_text db)) in
    sent_equal_text _ (list_line_regrouped c.args.label.now _ (separated texts))
    (sent_both
    (sent_both
    (sent_both
    (sent_both (sent_both c.send.ensures c.send_byte.ensures)
    (rw count_is at c.send_number.ensures)) c.send_byte-2.ensures) c.send_steps.ensures)
    c.send_byte-3.ensures)
