use Rattle.std.proofs.Common.{◌≡◌, map, take}
use Rattle.mm_machine.specs.Distinct.{body_pair}
use Rattle.mm_machine.proofs.distinct.list_asked.Given as goal

abbrev pub invariant-loop-pair : goal.invariant-loop-pair
invariant-loop-pair g l = l.asked.items ≡ map (body_pair l.premises) (take l.pair-index l.pairs)
