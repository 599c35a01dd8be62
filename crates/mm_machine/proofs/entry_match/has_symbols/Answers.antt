use Rattle.std.proofs.Common.{rules, ◌≡◌, ◌<◌, ◌+◌, ◌∙◌, ◌∷◌, Bool, IfOk, ap, sym, subst, length}
use Rattle.std.proofs.Common.{drop, bytes_eq, arith, length-drop}
use Rattle.std.proofs.lemmas.List.{take_rest}
use Rattle.std.proofs.lemmas.Bool.Decides.{nat_tests}
use Rattle.std.proofs.lemmas.List.Elements.{All-take, All-drop, All-weaker}
use Rattle.mm_nodes.specs.Strings.{first_node, string_of, joined_string_of}
use Rattle.mm_machine.specs.Entries.{entry_formula}
use Rattle.mm_machine.proofs.EntryMatchLaw.{not_wanted_if_not_typed, wanted_if_typed, begins_with}
use Rattle.mm_machine.proofs.StepLaw.{joined_symbols}
use Rattle.mm_machine.proofs.entry_match.has_symbols.Goals as goal

pub is_equal-requires-clause-length_is : goal.is_equal-requires-clause-length_is
is_equal-requires-clause-length_is g c =
    search (rules, arith, take_rest, joined_symbols, All-drop, length-drop, c.requires.are_symbols)

pub is_equal-requires-clause-are_bodies : goal.is_equal-requires-clause-are_bodies
is_equal-requires-clause-are_bodies g c =
    let nodes = c.args.nodes.now in
    let u = c.args.symbols.now in
    All-take (λ s. s < first_node + length nodes) _ _ (All-drop (λ s. s < first_node + length nodes)
    1 u (All-weaker (λ s. s < first_node) (λ s. s < first_node + length nodes) (λ s s_lt.
    omega (arith, s_lt)) u c.requires.are_symbols))

pub returns-then-not-begins_with_typecode-clause-tells_equal :
    goal.returns-then-not-begins_with_typecode-clause-tells_equal
returns-then-not-begins_with_typecode-clause-tells_equal g c =
    search (rules, arith, begins_with, not_wanted_if_not_typed, bytes_eq)

pub returns-clause-tells_equal : goal.returns-clause-tells_equal
returns-clause-tells_equal g c =
    let nodes = c.args.nodes.now in
    let e = c.args.premise.now in
    let u = c.args.symbols.now in
    subst (λ (b : Bool). IfOk c.is_equal.result (λ r. r ≡ b))
    (ap (bytes_eq (string_of nodes e.body)) (ap (joined_string_of nodes) (take_rest u 1)
    ∙ joined_symbols nodes (drop 1 u) (All-drop (λ s. s < first_node) 1 u c.requires.are_symbols))
    ∙ wanted_if_typed nodes e c.requires.is_entry c.new.result (drop 1 u)
    (sym c.if-not-begins_with_typecode.false ∙ c.begins_with_typecode.ensures)
    ∙ ap (bytes_eq (entry_formula nodes e)) (sym (begins_with u c.index-symbols-0.result
    (grind (arith, nat_tests)) c.index-symbols-0.is ∙ ap (λ s. s ∷ drop 1 u)
    (sym (c.new.ensures ∙ c.number.ensures))))) c.is_equal.ensures.tells_equal
