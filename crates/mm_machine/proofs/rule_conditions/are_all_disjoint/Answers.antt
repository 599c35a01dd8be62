use Rattle.std.proofs.Common.{rules, arith}
use Rattle.std.proofs.lemmas.Grind.{common_steps}
use Rattle.std.proofs.lemmas.List.Folds.{list_all_at, list_all_more}
use Rattle.std.proofs.lemmas.List.{take_all}
use Rattle.mm_machine.proofs.rule_conditions.are_all_disjoint.Goals as goal

pub returns-then-not-is_disjoint_from-clause-tells_disjoint :
    goal.returns-then-not-is_disjoint_from-clause-tells_disjoint
returns-then-not-is_disjoint_from-clause-tells_disjoint g c = search (rules, arith, list_all_at)

pub loop-symbol-preserved : goal.loop-symbol-preserved
loop-symbol-preserved g c = grind (arith, common_steps, list_all_more)

pub returns-clause-tells_disjoint : goal.returns-clause-tells_disjoint
returns-clause-tells_disjoint g c = search (rules, arith, take_all)
