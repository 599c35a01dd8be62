use Rattle.std.proofs.Common.{take}
use Rattle.mm_machine.specs.Distinct.{AppendsVariables}
use Rattle.mm_machine.proofs.distinct.append_variables.Given as goal

abbrev pub invariant-loop-symbol : goal.invariant-loop-symbol
invariant-loop-symbol g l = AppendsVariables l.database.statements (take l.symbol-index l.formula)
    l.initial.list.items l.list.items
