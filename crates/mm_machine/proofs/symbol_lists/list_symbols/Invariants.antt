use Rattle.std.proofs.Common.{◌≡◌, take}
use Rattle.mm_machine.proofs.symbol_lists.list_symbols.Given as goal

abbrev pub invariant-loop-symbol : goal.invariant-loop-symbol
invariant-loop-symbol g l = l.bodies.items ≡ take l.symbol-index l.formula
