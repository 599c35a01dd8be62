use Rattle.std.proofs.lemmas.List.{take_all}
use Rattle.mm_spec.specs.Assertion.{hypothesis_text}
use Rattle.mm_report.proofs.SentLaw.{sent_nothing}
use Rattle.mm_report.proofs.AssertionLaw.{sent_next}
use Rattle.mm_report.proofs.conditions.send_hypotheses.Goals as goal

pub loop-statement-init : goal.loop-statement-init
loop-statement-init g c = sent_nothing

pub loop-statement-preserved : goal.loop-statement-preserved
loop-statement-preserved g c =
    sent_next (hypothesis_text c.args.database.now.statements) _ 0
    c.loop-statement-test.true c.loop-statement.invariant
    c.send_hypothesis.ensures

pub returns : goal.returns
returns g c =
    rw (take_all c.loop-statement.statement-index c.args.statements.now c.loop-statement-test.false)
    at c.loop-statement.invariant
