use Rattle.std.proofs.Common.{arith}
use Rattle.mm_scope.specs.Numbering.{IsNumberedStretch}
use Rattle.mm_scope.proofs.NumberingLaw.{first_and_later}
use Rattle.mm_scope.proofs.numbering.joined_numbers.Goals as goal

pub joining-preserved : goal.joining-preserved
joining-preserved g c = λ wanted len none_wanted are_stretches.
    let so_far = c.joining.invariant wanted len none_wanted are_stretches in
    let left = first_and_later (IsNumberedStretch wanted len) c.joining.unjoined.items
    c.remove.result c.in_ok-next.next so_far.1 (omega arith) c.remove.ensures.value
    c.in_ok-next.was in
    (c.in_ok-joined.ensures wanted len so_far.0 left.0, rw c.remove.ensures.items left.1)

pub returns : goal.returns
returns g c = λ wanted len none_wanted are_stretches.
    (c.joining.invariant wanted len none_wanted are_stretches).0
