use Rattle.std.proofs.Common.{take}
use Rattle.mm_spec.specs.Assertion.{symbols_text}
use Rattle.mm_report.specs.Sent.{Sent}
use Rattle.mm_report.proofs.symbols.send_symbols.Given as goal

abbrev pub invariant-loop-symbol : goal.invariant-loop-symbol
invariant-loop-symbol g l =
    Sent (g.W.Write.contents l.fn.to) (g.W.Write.contents l.to) l.fn.sink l.sink
    (symbols_text l.database.statements (take l.symbol-index l.symbols))
