use Rattle.std.proofs.Common.{rules, arith}
use Rattle.mm_machine.proofs.DistinctLaw.{next_variable}
use Rattle.mm_machine.proofs.distinct.append_variables.Goals as goal

pub loop-symbol-preserved : goal.loop-symbol-preserved
loop-symbol-preserved g c =
    search (
      rules,
      arith,
      next_variable,
      c.len-start.ensures,
      c.loop-symbol-test.true,
      c.loop-symbol.invariant,
      c.requires,
      c.new.ensures,
      c.number.ensures,
      c.in_ok-append_variable.ensures,
    )
