use Rattle.std.proofs.Common.{rules, arith}
use Rattle.mm_machine.proofs.MachineLaw.{one_formula, only_entry, other_entry, no_long_entry}
use Rattle.mm_machine.proofs.machine.Machine.is_only.Goals as goal

pub returns-then-formula-gt-FORMULA_LIMIT-clause-is_other :
    goal.returns-then-formula-gt-FORMULA_LIMIT-clause-is_other
returns-then-formula-gt-FORMULA_LIMIT-clause-is_other g c = search (rules, arith, no_long_entry)

pub returns-clause-is_only_entry : goal.returns-clause-is_only_entry
returns-clause-is_only_entry g c = search (rules, arith, only_entry, one_formula)

pub returns-clause-is_other : goal.returns-clause-is_other
returns-clause-is_other g c = search (rules, arith, other_entry, one_formula)
