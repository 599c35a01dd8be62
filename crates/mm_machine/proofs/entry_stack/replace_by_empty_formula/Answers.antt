use Rattle.std.proofs.Common.{rules, ◌++◌, ◌∷◌, ◌∙◌, [], List, ℕ, take, sym, ap₂, subst, arith}
use Rattle.mm_nodes.specs.Strings.{no_body}
use Rattle.mm_machine.specs.declared.entry.Entry.{Entry}
use Rattle.mm_machine.specs.Entries.{entry, IsStack}
use Rattle.mm_machine.proofs.EntryLaw.{nothing_is_entry, nothing_formula, entry_formulas_take}
use Rattle.mm_machine.proofs.EntryLaw.{entry_formulas_push}
use Rattle.mm_machine.proofs.OwnersLaw.{masks_take, masks_push}
use Rattle.mm_machine.proofs.StackLaw.{stack_cut, stack_pushed, on_err}
use Rattle.mm_machine.proofs.entry_stack.replace_by_empty_formula.Goals as goal

pub returns-in_err-push-clause-is_stack : goal.returns-in_err-push-clause-is_stack
returns-in_err-push-clause-is_stack g c = search (rules, arith, stack_cut)

pub returns-in_err-push-clause-formulas_below_stay :
    goal.returns-in_err-push-clause-formulas_below_stay
returns-in_err-push-clause-formulas_below_stay g c =
    search (rules, arith, on_err, entry_formulas_take)

pub returns-clause-is_stack : goal.returns-clause-is_stack
returns-clause-is_stack g c =
    let nodes = c.args.nodes.now in
    let es = c.args.stack.now.items in
    subst (IsStack nodes) (sym (c.in_ok-push.ensures.items ∙ ap₂ (λ (xs : List Entry) (b : ℕ).
    xs ++ entry b b 0 c.count.result c.args.mask ∷ []) c.truncate.ensures.items
    c.none-nothing.ensures)) (stack_pushed nodes (take c.args.below es) (entry no_body no_body 0
    c.count.result c.args.mask) (stack_cut nodes c.args.below es c.requires.is_stack)
    (nothing_is_entry nodes c.count.result c.args.mask c.requires.is_stack.count_lt
    (omega (arith, c.count.ensures.count_is))) c.count.ensures.count_is)

pub returns-clause-formulas_are : goal.returns-clause-formulas_are
returns-clause-formulas_are g c =
    search (
      rules,
      arith,
      entry_formulas_push,
      entry_formulas_take,
      nothing_formula,
      c.in_ok-push.ensures.items,
      c.truncate.ensures.items,
      c.none-nothing.ensures,
      c.requires.is_stack.count_lt,
      c.count.ensures.count_is,
    )

pub returns-in_err-push-clause-masks_below_stay : goal.returns-in_err-push-clause-masks_below_stay
returns-in_err-push-clause-masks_below_stay g c = search (rules, arith, on_err, masks_take)

pub returns-clause-masks_are : goal.returns-clause-masks_are
returns-clause-masks_are g c = search (rules, arith, masks_push, masks_take)
