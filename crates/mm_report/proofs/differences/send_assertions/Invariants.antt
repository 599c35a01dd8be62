use Rattle.std.proofs.Common.{take}
use Rattle.mm_report.specs.Differences.{lines_of}
use Rattle.mm_report.specs.Sent.{Sent}
use Rattle.mm_report.proofs.differences.send_assertions.Given as goal

abbrev pub invariant-loop-statement : goal.invariant-loop-statement
invariant-loop-statement g l =
    Sent (g.W.Write.contents l.fn.to) (g.W.Write.contents l.to) l.fn.sink l.sink
    (lines_of l.database (take l.statement-index l.assertions))
