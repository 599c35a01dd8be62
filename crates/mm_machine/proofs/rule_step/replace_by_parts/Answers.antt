use Rattle.std.proofs.Common.{rules, arith, refl}
use Rattle.std.proofs.lemmas.Grind.{common_steps}
use Rattle.mm_machine.proofs.StackLaw.{extends_unchanged, extends_less}
use Rattle.mm_machine.proofs.StepLaw.{premises_are, premises_are_entries, entries_too_long}
use Rattle.mm_machine.proofs.StepLaw.{variables_are_below_premises}
use Rattle.mm_machine.proofs.OwnersLaw.{parts_stay_masked}
use Rattle.mm_machine.proofs.rule_step.replace_by_parts.Goals as goal

pub fill-requires-clause-are_entries : goal.fill-requires-clause-are_entries
fill-requires-clause-are_entries g c = search (rules, arith, premises_are_entries)

pub fill-requires-clause-variables_in_range : goal.fill-requires-clause-variables_in_range
fill-requires-clause-variables_in_range g c = search (rules, arith, variables_are_below_premises)

pub returns-in-None-clause-refusal_is_right : goal.returns-in-None-clause-refusal_is_right
returns-in-None-clause-refusal_is_right g c = search (rules, arith, premises_are, entries_too_long)

pub returns-in-None-clause-nodes_are_kept : goal.returns-in-None-clause-nodes_are_kept
returns-in-None-clause-nodes_are_kept g c = grind (arith, common_steps, extends_unchanged)

pub returns-then-filled-ge-FORMULA_LIMIT-clause-nodes_are_kept :
    goal.returns-then-filled-ge-FORMULA_LIMIT-clause-nodes_are_kept
returns-then-filled-ge-FORMULA_LIMIT-clause-nodes_are_kept g c =
    extends_unchanged c.args.nodes.now c.args.nodes.now c.args.floor refl

pub returns-in_err-replace_entries-in-Some-clause-nodes_are_kept :
    goal.returns-in_err-replace_entries-in-Some-clause-nodes_are_kept
returns-in_err-replace_entries-in-Some-clause-nodes_are_kept g c =
    extends_less c.args.nodes.now c.replace_entries.new.nodes c.args.floor
    c.nodes_to_keep-keep.result
    (omega (arith, c.nodes_to_keep-keep.ensures.least_le, c.max-least.ensures))
    c.replace_entries.ensures.nodes_are_kept

pub returns-in_ok-replace_entries-in-Some-clause-nodes_are_kept :
    goal.returns-in_ok-replace_entries-in-Some-clause-nodes_are_kept
returns-in_ok-replace_entries-in-Some-clause-nodes_are_kept g c =
    extends_less c.args.nodes.now c.replace_entries.new.nodes c.args.floor
    c.nodes_to_keep-keep.result
    (omega (arith, c.nodes_to_keep-keep.ensures.least_le, c.max-least.ensures))
    c.replace_entries.ensures.nodes_are_kept

pub returns-in-None-clause-stay_masked : goal.returns-in-None-clause-stay_masked
returns-in-None-clause-stay_masked g c = record { stay = λ vs owners no_variables masked. masked }

pub returns-then-filled-ge-FORMULA_LIMIT-clause-stay_masked :
    goal.returns-then-filled-ge-FORMULA_LIMIT-clause-stay_masked
returns-then-filled-ge-FORMULA_LIMIT-clause-stay_masked g c = grind (arith, common_steps)

pub returns-in_err-replace_entries-in-Some-clause-stay_masked :
    goal.returns-in_err-replace_entries-in-Some-clause-stay_masked
returns-in_err-replace_entries-in-Some-clause-stay_masked g c =
    search (rules, arith, parts_stay_masked)

pub returns-in_ok-replace_entries-in-Some-clause-stay_masked :
    goal.returns-in_ok-replace_entries-in-Some-clause-stay_masked
returns-in_ok-replace_entries-in-Some-clause-stay_masked g c =
    search (rules, arith, parts_stay_masked)
