use Rattle.std.proofs.Common.{rules, arith}
use Rattle.std.proofs.lemmas.Grind.{common_steps}
use Rattle.mm_machine.proofs.CachedPairsLaw.{either_disjoint, either_insert_keeps_disjoint}
use Rattle.mm_machine.proofs.rule_conditions.are_disjoint.Goals as goal

pub returns-then-has-clause-tells_disjoint : goal.returns-then-has-clause-tells_disjoint
returns-then-has-clause-tells_disjoint g c = search (rules, arith, either_disjoint)

pub returns-then-not-are_disjoint_in_database-clause-cached_are_disjoint :
    goal.returns-then-not-are_disjoint_in_database-clause-cached_are_disjoint
returns-then-not-are_disjoint_in_database-clause-cached_are_disjoint g c = search (rules, arith)

pub returns-clause-cached_are_disjoint : goal.returns-clause-cached_are_disjoint
returns-clause-cached_are_disjoint g c = grind (arith, common_steps, either_insert_keeps_disjoint)
