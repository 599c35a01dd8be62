use Rattle.std.proofs.Common.{◌≡◌, All}
use Rattle.mm_room.proofs.reuse.Reusing.new.Given as goal

abbrev pub invariant-loop : goal.invariant-loop
invariant-loop g l = All (λ list. list ≡ l.fn.alloc) l.lists.items
