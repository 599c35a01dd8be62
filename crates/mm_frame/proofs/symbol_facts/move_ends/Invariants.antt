use Rattle.std.proofs.Common.{take}
use Rattle.mm_frame.proofs.SymbolFactsLaw.{AreMoved}
use Rattle.mm_frame.proofs.symbol_facts.move_ends.Given as goal

abbrev pub invariant-loop-symbol : goal.invariant-loop-symbol
invariant-loop-symbol g l =
    AreMoved (take l.symbol-index l.symbols) l.end l.initial.ends.items l.ends.items
