use Rattle.std.proofs.Common.{rules, arith}
use Rattle.std.proofs.lemmas.Grind.{common_steps}
use Rattle.mm_machine.proofs.FlagRowsLaw.{flagged_are_disjoint, columns_stay}
use Rattle.mm_machine.proofs.rule_conditions.is_disjoint_by_row.Goals as goal

pub returns-then-has_flags-clause-tells_disjoint :
    goal.returns-then-has_flags-clause-tells_disjoint
returns-then-has_flags-clause-tells_disjoint g c = search (rules, arith, flagged_are_disjoint)

pub returns-clause-cached_are_disjoint : goal.returns-clause-cached_are_disjoint
returns-clause-cached_are_disjoint g c = search (rules, arith)

pub returns-then-not-is_disjoint_from-clause-are_columns :
    goal.returns-then-not-is_disjoint_from-clause-are_columns
returns-then-not-is_disjoint_from-clause-are_columns g c = search (rules, arith)

pub returns-clause-are_columns : goal.returns-clause-are_columns
returns-clause-are_columns g c = grind (arith, common_steps, columns_stay)
