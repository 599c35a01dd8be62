use Rattle.std.proofs.Common.{◌∷◌}
use Rattle.std.proofs.lemmas.List.{take_all}
use Rattle.mm_spec.specs.Assertion.{name_at}
use Rattle.mm_report.proofs.SentLaw.{sent_nothing}
use Rattle.mm_report.proofs.AssertionLaw.{sent_next}
use Rattle.mm_report.proofs.conditions.send_variables.Goals as goal

pub loop-variable-init : goal.loop-variable-init
loop-variable-init g c = sent_nothing

pub loop-variable-preserved : goal.loop-variable-preserved
loop-variable-preserved g c =
    sent_next (λ x. 32 ∷ name_at c.args.database.now.statements x) _ 0
    c.loop-variable-test.true c.loop-variable.invariant
    (rw c.new.ensures at c.send_symbol.ensures)

pub returns : goal.returns
returns g c =
    rw (take_all c.loop-variable.variable-index c.args.variables.now c.loop-variable-test.false)
    at c.loop-variable.invariant
