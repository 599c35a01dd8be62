use Rattle.std.proofs.Common.{rules, ◌≡◌, ◌<◌, ◌+◌, ◌++◌, ◌∷◌, ◌∙◌, [], List, ℕ, OnOk, drop, take}
use Rattle.std.proofs.Common.{sym, ap, subst, arith, length-drop}
use Rattle.std.proofs.lemmas.Grind.{common_steps}
use Rattle.std.proofs.lemmas.List.{take_rest}
use Rattle.std.proofs.lemmas.Bool.Decides.{nat_tests}
use Rattle.std.proofs.lemmas.List.Elements.{All-take, All-drop, All-weaker}
use Rattle.mm_nodes.specs.Strings.{first_node, joined_string_of}
use Rattle.mm_machine.specs.Entries.{entry_formulas}
use Rattle.mm_machine.proofs.EntryMatchLaw.{begins_with}
use Rattle.mm_machine.proofs.StackLaw.{extends_unchanged}
use Rattle.mm_machine.proofs.StepLaw.{joined_symbols}
use Rattle.mm_machine.proofs.entry_stack.replace_by_symbols.Goals as goal

pub returns-then-is_empty-clause-nodes_are_kept : goal.returns-then-is_empty-clause-nodes_are_kept
returns-then-is_empty-clause-nodes_are_kept g c = grind (arith, common_steps, extends_unchanged)

pub replace_entries-requires-clause-bodies_are_kept :
    goal.replace_entries-requires-clause-bodies_are_kept
replace_entries-requires-clause-bodies_are_kept g c =
    let u = c.args.symbols.now in
    All-take (λ s. s < first_node + c.args.keep) _ _ (All-drop (λ s. s < first_node + c.args.keep) 1
    u (All-weaker (λ s. s < first_node) (λ s. s < first_node + c.args.keep) (λ s s_lt.
    omega (arith, s_lt)) u c.requires.are_symbols))

pub replace_entries-requires-clause-symbol_count_is :
    goal.replace_entries-requires-clause-symbol_count_is
replace_entries-requires-clause-symbol_count_is g c =
    search (rules, arith, take_rest, joined_symbols, All-drop, length-drop, c.requires.are_symbols)

pub returns-clause-formulas_are : goal.returns-clause-formulas_are
returns-clause-formulas_are g c =
    let nodes = c.args.nodes.now in
    let u = c.args.symbols.now in
    let s = c.index-symbols-0.result in
    subst (λ (f : List ℕ). OnOk c.replace_entries.result (entry_formulas c.replace_entries.new.nodes
    c.replace_entries.new.stack.items ≡ take c.args.below (entry_formulas nodes
    c.args.stack.now.items) ++ f ∷ [])) (ap (λ v. s ∷ v) (ap (joined_string_of nodes)
    (take_rest u 1) ∙ joined_symbols nodes (drop 1 u) (All-drop (λ s. s < first_node) 1 u
    c.requires.are_symbols)) ∙ sym (begins_with u s (grind (arith, nat_tests))
    c.index-symbols-0.is)) c.replace_entries.ensures.formulas_are
