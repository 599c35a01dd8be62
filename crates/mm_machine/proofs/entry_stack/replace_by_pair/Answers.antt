use Rattle.std.proofs.Common.{rules, arith}
use Rattle.std.proofs.lemmas.Bool.Decides.{nat_tests}
use Rattle.mm_machine.proofs.EntryLaw.{pair_is_entry, pair_formula, entry_formulas_take}
use Rattle.mm_machine.proofs.EntryLaw.{entry_formulas_push}
use Rattle.mm_machine.proofs.OwnersLaw.{masks_take, masks_push}
use Rattle.mm_machine.proofs.StackLaw.{stack_cut, stack_pushed, on_err}
use Rattle.mm_machine.proofs.entry_stack.replace_by_pair.Goals as goal

pub returns-in_err-push-clause-is_stack : goal.returns-in_err-push-clause-is_stack
returns-in_err-push-clause-is_stack g c = search (rules, arith, stack_cut)

pub returns-in_err-push-clause-formulas_below_stay :
    goal.returns-in_err-push-clause-formulas_below_stay
returns-in_err-push-clause-formulas_below_stay g c =
    search (rules, arith, on_err, entry_formulas_take)

pub returns-in_err-push-clause-masks_below_stay : goal.returns-in_err-push-clause-masks_below_stay
returns-in_err-push-clause-masks_below_stay g c = search (rules, arith, on_err, masks_take)

pub returns-clause-is_stack : goal.returns-clause-is_stack
returns-clause-is_stack g c =
    grind (
      arith,
      nat_tests,
      stack_pushed,
      stack_cut,
      pair_is_entry,
      c.in_ok-push.ensures.items,
      c.truncate.ensures.items,
      c.requires.is_stack,
      c.requires.typecode_is_symbol,
      c.requires.is_symbol,
      c.count.ensures.count_is,
    )

pub returns-clause-formulas_are : goal.returns-clause-formulas_are
returns-clause-formulas_are g c =
    search (rules, arith, entry_formulas_push, entry_formulas_take, pair_formula)

pub returns-clause-masks_are : goal.returns-clause-masks_are
returns-clause-masks_are g c = search (rules, arith, masks_push, masks_take)
