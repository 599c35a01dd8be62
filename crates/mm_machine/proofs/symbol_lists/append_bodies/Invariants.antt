use Rattle.std.proofs.Common.{◌≡◌, ◌++◌, take}
use Rattle.mm_machine.proofs.symbol_lists.append_bodies.Given as goal

abbrev pub invariant-loop-body : goal.invariant-loop-body
invariant-loop-body g l = l.symbols.items ≡ l.fn.symbols.items ++ take l.body-index l.bodies
