use Rattle.std.proofs.Common.{false}
use Rattle.mm_frame.proofs.ChainsLaw.{ArePairsTo}
use Rattle.mm_frame.proofs.chains.pairs_by_symbol.Given as goal

abbrev pub invariant-loop-symbol : goal.invariant-loop-symbol
invariant-loop-symbol g l = ArePairsTo l.statements.list false l.symbol l.by_symbol.items
