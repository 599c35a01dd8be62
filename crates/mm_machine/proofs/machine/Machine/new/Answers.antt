use Rattle.std.proofs.Common.{arith}
use Rattle.mm_machine.proofs.MaskedLaw.{empty_masked}
use Rattle.mm_machine.proofs.machine.Machine.new.Goals as goal

pub invariant_of-result : goal.invariant_of-result
invariant_of-result g c =
    empty_masked _ _ _ _ _ c.new.ensures c.new-2.ensures.items c.new-3.ensures.items
    c.new-4.ensures.items
    (omega (
      arith,
      c.in_ok-new-2.ensures.are_variables.count_is,
      c.symbol_count.ensures.count_is,
      c.symbol_count.ensures.count_lt_2_31,
    ))
    c.in_ok-new-2.ensures.no_owners
