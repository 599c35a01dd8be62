use Rattle.std.proofs.Common.{take, All}
use Rattle.mm_machine.specs.Distinct.{HasBoth, HasSymbols}
use Rattle.mm_machine.proofs.distinct.list_bodies.Given as goal

abbrev pub invariant-loop-pair : goal.invariant-loop-pair
invariant-loop-pair g l = record {
  are_listed : All (HasBoth l.listed.items) (take l.pair-index l.asked);
  have_symbols : All (HasSymbols l._database.statements l._nodes) l.listed.items;
}
