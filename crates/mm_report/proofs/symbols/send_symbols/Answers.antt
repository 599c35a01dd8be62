use Rattle.std.proofs.Common.{◌∷◌}
use Rattle.std.proofs.lemmas.List.{take_all}
use Rattle.mm_spec.specs.Assertion.{name_at}
use Rattle.mm_report.proofs.SentLaw.{sent_nothing}
use Rattle.mm_report.proofs.AssertionLaw.{sent_next}
use Rattle.mm_report.proofs.symbols.send_symbols.Goals as goal

pub loop-symbol-init : goal.loop-symbol-init
loop-symbol-init g c = sent_nothing

pub loop-symbol-preserved : goal.loop-symbol-preserved
loop-symbol-preserved g c =
    sent_next (λ x. 32 ∷ name_at c.args.database.now.statements x) _ c.symbol-item.result
    c.loop-symbol-test.true c.loop-symbol.invariant
    (rw c.symbol-item.is at c.send_symbol.ensures)

pub returns : goal.returns
returns g c =
    rw (take_all c.loop-symbol.symbol-index c.args.symbols.now c.loop-symbol-test.false)
    at c.loop-symbol.invariant
