use Rattle.std.proofs.Common.{rules, ◌≡◌, ◌++◌, ◌∷◌, ◌∙◌, [], Ok, length, take, sym, ap, arith}
use Rattle.std.proofs.lemmas.Grind.{common_steps}
use Rattle.mm_machine.specs.Entries.{entry_formulas}
use Rattle.mm_machine.specs.Filled.{filled_parts}
use Rattle.mm_machine.proofs.StackLaw.{extends_unchanged, extends_fewer, on_err}
use Rattle.mm_machine.proofs.StepLaw.{premises_are, variables_are_below_premises, entries_too_long}
use Rattle.mm_machine.proofs.StepLaw.{entries_if_short, formulas_below_are_in_range}
use Rattle.mm_machine.proofs.rule_step.replace_by_listed.Goals as goal

pub list_filled_symbols-requires : goal.list_filled_symbols-requires
list_filled_symbols-requires g c = search (rules, arith, variables_are_below_premises)

pub returns-in_err-is_within_limit-clause-is_stack :
    goal.returns-in_err-is_within_limit-clause-is_stack
returns-in_err-is_within_limit-clause-is_stack g c = search (rules, arith)

pub returns-in_err-is_within_limit-clause-nodes_are_kept :
    goal.returns-in_err-is_within_limit-clause-nodes_are_kept
returns-in_err-is_within_limit-clause-nodes_are_kept g c = search (rules, arith, extends_unchanged)

pub returns-in_err-is_within_limit-clause-stay_in_range :
    goal.returns-in_err-is_within_limit-clause-stay_in_range
returns-in_err-is_within_limit-clause-stay_in_range g c = search (rules, arith, on_err)

pub returns-then-not-is_within_limit-clause-is_stack :
    goal.returns-then-not-is_within_limit-clause-is_stack
returns-then-not-is_within_limit-clause-is_stack g c = search (rules, arith)

pub returns-then-not-is_within_limit-clause-nodes_are_kept :
    goal.returns-then-not-is_within_limit-clause-nodes_are_kept
returns-then-not-is_within_limit-clause-nodes_are_kept g c =
    grind (arith, common_steps, extends_unchanged, c.list_filled_symbols.ensures.nodes_unchanged)

pub returns-then-not-is_within_limit-clause-stay_in_range :
    goal.returns-then-not-is_within_limit-clause-stay_in_range
returns-then-not-is_within_limit-clause-stay_in_range g c = search (rules, arith)

pub returns-then-not-is_within_limit-clause-refusal_is_right :
    goal.returns-then-not-is_within_limit-clause-refusal_is_right
returns-then-not-is_within_limit-clause-refusal_is_right g c =
    search (rules, arith, entries_too_long, premises_are)

pub nodes_to_keep-keep-requires-clause-is_stack : goal.nodes_to_keep-keep-requires-clause-is_stack
nodes_to_keep-keep-requires-clause-is_stack g c = search (rules, arith)

pub replace_by_symbols-requires-clause-is_stack : goal.replace_by_symbols-requires-clause-is_stack
replace_by_symbols-requires-clause-is_stack g c = search (rules, arith)

pub replace_by_symbols-requires-clause-entries_are_kept :
    goal.replace_by_symbols-requires-clause-entries_are_kept
replace_by_symbols-requires-clause-entries_are_kept g c = search (rules, arith)

pub replace_by_symbols-requires-clause-are_symbols :
    goal.replace_by_symbols-requires-clause-are_symbols
replace_by_symbols-requires-clause-are_symbols g c = search (rules, arith)

pub replace_by_symbols-requires-clause-length_le_limit :
    goal.replace_by_symbols-requires-clause-length_le_limit
replace_by_symbols-requires-clause-length_le_limit g c = search (rules, arith)

pub returns-in_err-replace_by_symbols-clause-nodes_are_kept :
    goal.returns-in_err-replace_by_symbols-clause-nodes_are_kept
returns-in_err-replace_by_symbols-clause-nodes_are_kept g c =
    search (rules, arith, extends_fewer)

pub returns-in_err-replace_by_symbols-clause-stay_in_range :
    goal.returns-in_err-replace_by_symbols-clause-stay_in_range
returns-in_err-replace_by_symbols-clause-stay_in_range g c =
    grind (arith, common_steps, on_err, formulas_below_are_in_range)

pub returns-clause-nodes_are_kept : goal.returns-clause-nodes_are_kept
returns-clause-nodes_are_kept g c = search (rules, arith, extends_fewer)

pub returns-clause-entries_are : goal.returns-clause-entries_are
returns-clause-entries_are g c =
    let nodes = c.args.nodes.now in
    let stack = c.args.stack.now.items in
    let listed = c.in_ok-is_within_limit.ensures.is_listed c.if-not-is_within_limit.false in
    let f = c.deref-3.result.now in
    let f_is : f ≡ c.list_filled_symbols.new.bodies.items = c.deref-3.ensures.value in
    entries_if_short nodes stack c.args.below c.args.formula.now f (f_is ∙ listed.symbols_are
    ∙ ap (λ es. filled_parts nodes es c.args.formula.now) (premises_are stack c.deref.result.now
    c.args.below c.deref.ensures.value)) (omega (arith, ap length f_is, listed.length_le_limit))
    ∙ ap Ok (sym (c.in_ok-replace_by_symbols.ensures.formulas_are ∙ ap (λ ns. take c.args.below
    (entry_formulas ns stack) ++ f ∷ []) c.list_filled_symbols.ensures.nodes_unchanged))
