use Rattle.std.proofs.Common.{take}
use Rattle.std.specs.Prelude.{flat_map}
use Rattle.mm_spec.specs.Assertion.{hypothesis_text}
use Rattle.mm_report.specs.Sent.{Sent}
use Rattle.mm_report.proofs.conditions.send_hypotheses.Given as goal

abbrev pub invariant-loop-statement : goal.invariant-loop-statement
invariant-loop-statement g l =
    Sent (g.W.Write.contents l.fn.to) (g.W.Write.contents l.to) l.fn.sink l.sink
    (flat_map (hypothesis_text l.database.statements) (take l.statement-index l.statements))
