use Rattle.std.proofs.Common.{rules, ◌++◌, ◌∷◌, ◌∙◌, [], List, ℕ, length, take, sym, ap, ap₂, subst}
use Rattle.std.proofs.Common.{append-nil, arith}
use Rattle.std.proofs.lemmas.List.Elements.{All-take}
use Rattle.mm_nodes.specs.Strings.{joined_string_of}
use Rattle.mm_nodes.proofs.StoreLaw.{joined_when_cut}
use Rattle.mm_machine.specs.declared.entry.Entry.{Entry}
use Rattle.mm_machine.specs.Entries.{entry, IsEntry, IsStack, entry_formulas}
use Rattle.mm_machine.proofs.EntryLaw.{formulas_are_kept, made_is_entry, made_formula}
use Rattle.mm_machine.proofs.EntryLaw.{entry_formulas_take, entry_formulas_push}
use Rattle.mm_machine.proofs.OwnersLaw.{masks_take, masks_push}
use Rattle.mm_machine.proofs.StackLaw.{stack_kept, stack_pushed, on_err}
use Rattle.mm_machine.proofs.entry_stack.replace_entries.Goals as goal

pub make-requires-clause-length_is : goal.make-requires-clause-length_is
make-requires-clause-length_is g c = search (rules, arith, joined_when_cut)

pub returns-in_err-body-clause-is_stack : goal.returns-in_err-body-clause-is_stack
returns-in_err-body-clause-is_stack g c =
    subst (IsStack c.make.new.self) (sym c.truncate.ensures.items) (stack_kept c.args.nodes.now []
    c.make.new.self c.args.keep c.args.below c.args.stack.now.items
    (c.in_err-body.ensures.nodes_unchanged ∙ c.truncate-2.ensures.nodes_are_taken
    ∙ sym (append-nil (take c.args.keep c.args.nodes.now))) c.requires.keep_le_count
    (omega (arith, ap length c.in_err-body.ensures.nodes_unchanged, c.truncate-2.ensures.count_lt))
    c.requires.is_stack c.requires.entries_are_kept)

pub returns-in_err-body-clause-formulas_below_stay :
    goal.returns-in_err-body-clause-formulas_below_stay
returns-in_err-body-clause-formulas_below_stay g c =
    let es = c.args.stack.now.items in
    on_err c.from_residual.result (ap (entry_formulas c.make.new.self) c.truncate.ensures.items
    ∙ formulas_are_kept c.args.nodes.now [] c.make.new.self c.args.keep (take c.args.below es)
    (c.in_err-body.ensures.nodes_unchanged ∙ c.truncate-2.ensures.nodes_are_taken ∙ sym (append-nil
    (take c.args.keep c.args.nodes.now))) c.requires.keep_le_count
    (omega (arith, ap length c.in_err-body.ensures.nodes_unchanged, c.truncate-2.ensures.count_lt))
    (All-take (IsEntry c.args.nodes.now) c.args.below es c.requires.is_stack.are_entries)
    c.requires.entries_are_kept ∙ entry_formulas_take c.args.nodes.now c.args.below es)

pub returns-in_err-push-clause-is_stack : goal.returns-in_err-push-clause-is_stack
returns-in_err-push-clause-is_stack g c =
    let more = c.in_ok-body.ensures.nodes_stay.0 in
    subst (IsStack c.make.new.self) (sym (c.in_err-push.ensures.items ∙ c.truncate.ensures.items))
    (stack_kept c.args.nodes.now more c.make.new.self c.args.keep c.args.below
    c.args.stack.now.items (c.in_ok-body.ensures.nodes_stay.1 ∙ ap (λ (ns : List (List ℕ)). ns
    ++ more) c.truncate-2.ensures.nodes_are_taken) c.requires.keep_le_count
    (omega (arith, c.count.ensures.count_is, c.count.ensures.count_lt))
    c.requires.is_stack c.requires.entries_are_kept)

pub returns-in_err-push-clause-formulas_below_stay :
    goal.returns-in_err-push-clause-formulas_below_stay
returns-in_err-push-clause-formulas_below_stay g c =
    search (rules, arith, on_err, formulas_are_kept, All-take, entry_formulas_take)

pub returns-clause-is_stack : goal.returns-clause-is_stack
returns-clause-is_stack g c =
    let nodes = c.args.nodes.now in
    let keep = c.args.keep in
    let es = c.args.stack.now.items in
    let below = c.args.below in
    let more = c.in_ok-body.ensures.nodes_stay.0 in
    let bodies = c.args.bodies.now in
    let e : Entry = entry c.args.typecode c.in_ok-body.body c.args.symbol_count c.count.result
    c.args.mask in
    subst (IsStack c.make.new.self) (sym (c.in_ok-push.ensures.items
    ∙ ap (λ (xs : List Entry). xs ++ e ∷ []) c.truncate.ensures.items))
    (stack_pushed c.make.new.self (take below es) e (stack_kept nodes more c.make.new.self keep
    below es (c.in_ok-body.ensures.nodes_stay.1 ∙ ap (λ (ns : List (List ℕ)). ns ++ more)
    c.truncate-2.ensures.nodes_are_taken) c.requires.keep_le_count
    (omega (arith, c.count.ensures.count_is, c.count.ensures.count_lt)) c.requires.is_stack
    c.requires.entries_are_kept) (made_is_entry nodes c.truncate-2.new.self c.make.new.self bodies e
    c.in_ok-body.ensures.is_made (ap (λ ns. joined_string_of ns bodies)
    c.truncate-2.ensures.nodes_are_taken ∙ joined_when_cut nodes keep bodies
    c.requires.keep_le_count c.requires.bodies_are_kept) c.requires.typecode_is_symbol
    c.requires.symbol_count_is c.requires.symbol_count_lt_limit c.count.ensures.count_is)
    c.count.ensures.count_is)

pub returns-clause-formulas_are : goal.returns-clause-formulas_are
returns-clause-formulas_are g c =
    let nodes = c.args.nodes.now in
    let keep = c.args.keep in
    let es = c.args.stack.now.items in
    let below = c.args.below in
    let more = c.in_ok-body.ensures.nodes_stay.0 in
    let bodies = c.args.bodies.now in
    let e : Entry = entry c.args.typecode c.in_ok-body.body c.args.symbol_count c.count.result
    c.args.mask in
    ap (entry_formulas c.make.new.self) (c.in_ok-push.ensures.items
    ∙ ap (λ (xs : List Entry). xs ++ e ∷ []) c.truncate.ensures.items)
    ∙ entry_formulas_push c.make.new.self (take below es) e
    ∙ ap₂ (λ (fs : List (List ℕ)) (f : List ℕ). fs ++ f ∷ []) (formulas_are_kept nodes more
    c.make.new.self keep (take below es) (c.in_ok-body.ensures.nodes_stay.1
    ∙ ap (λ (ns : List (List ℕ)). ns ++ more) c.truncate-2.ensures.nodes_are_taken)
    c.requires.keep_le_count (omega (arith, c.count.ensures.count_is, c.count.ensures.count_lt))
    (All-take (IsEntry nodes) below es c.requires.is_stack.are_entries) c.requires.entries_are_kept
    ∙ entry_formulas_take nodes below es) (made_formula nodes c.truncate-2.new.self c.make.new.self
    bodies e c.in_ok-body.ensures.is_made (ap (λ ns. joined_string_of ns bodies)
    c.truncate-2.ensures.nodes_are_taken ∙ joined_when_cut nodes keep bodies
    c.requires.keep_le_count c.requires.bodies_are_kept) c.requires.typecode_is_symbol
    c.requires.symbol_count_is c.requires.symbol_count_lt_limit c.count.ensures.count_is)

pub returns-in_err-body-clause-masks_below_stay : goal.returns-in_err-body-clause-masks_below_stay
returns-in_err-body-clause-masks_below_stay g c = search (rules, arith, on_err, masks_take)

pub returns-in_err-push-clause-masks_below_stay : goal.returns-in_err-push-clause-masks_below_stay
returns-in_err-push-clause-masks_below_stay g c = search (rules, arith, on_err, masks_take)

pub returns-clause-masks_are : goal.returns-clause-masks_are
returns-clause-masks_are g c = search (rules, arith, masks_push, masks_take)
