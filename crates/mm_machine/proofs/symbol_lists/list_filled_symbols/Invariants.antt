use Rattle.std.proofs.Common.{◌≡◌, take}
use Rattle.mm_machine.specs.Filled.{IsListed}
use Rattle.mm_machine.proofs.symbol_lists.list_filled_symbols.Given as goal

abbrev pub invariant-loop-part : goal.invariant-loop-part
invariant-loop-part g l = record {
  nodes_stay : l.nodes ≡ l.fn.nodes;
  is_listed : IsListed l.fn.nodes l.premises (take l.part-index l.parts) l.bodies.items;
}
