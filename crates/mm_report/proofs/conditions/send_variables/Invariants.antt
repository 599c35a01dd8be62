use Rattle.std.proofs.Common.{take}
use Rattle.mm_spec.specs.Assertion.{symbols_text}
use Rattle.mm_report.specs.Sent.{Sent}
use Rattle.mm_report.proofs.conditions.send_variables.Given as goal

abbrev pub invariant-loop-variable : goal.invariant-loop-variable
invariant-loop-variable g l =
    Sent (g.W.Write.contents l.fn.to) (g.W.Write.contents l.to) l.fn.sink l.sink
    (symbols_text l.database.statements (take l.variable-index l.variables))
