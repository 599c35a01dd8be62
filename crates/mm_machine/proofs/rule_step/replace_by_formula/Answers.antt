use Rattle.std.proofs.Common.{rules, arith}
use Rattle.std.proofs.lemmas.Grind.{common_steps}
use Rattle.std.proofs.lemmas.List.{take_rest}
use Rattle.std.proofs.lemmas.List.Elements.{All-take, All-drop}
use Rattle.mm_machine.proofs.rule_step.replace_by_formula.Goals as goal

pub replace_by_parts-requires-clause-variables_in_range :
    goal.replace_by_parts-requires-clause-variables_in_range
replace_by_parts-requires-clause-variables_in_range g c = search (rules, arith, All-take, All-drop)

pub returns-in-Some-clause-entries_are : goal.returns-in-Some-clause-entries_are
returns-in-Some-clause-entries_are g c = grind (arith, common_steps, take_rest)

pub returns-in-Some-clause-refusal_is_right : goal.returns-in-Some-clause-refusal_is_right
returns-in-Some-clause-refusal_is_right g c = grind (arith, common_steps, take_rest)
