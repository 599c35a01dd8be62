use Rattle.std.proofs.Common.{◌≡◌, ◌<◌, ◌-◌, ◌∙◌, All, get_or, ap, sym, subst, arith}
use Rattle.std.proofs.lemmas.List.{get_or_default}
use Rattle.mm_machine.specs.Entries.{no_entry}
use Rattle.mm_machine.proofs.MachineLaw.{marked_machine, machine_after_mark, marked_state}
use Rattle.mm_machine.proofs.MachineLaw.{last_index}
use Rattle.mm_machine.proofs.MaskedLaw.{raised_masked}
use Rattle.mm_machine.proofs.OwnersLaw.{masks_with_marked}
use Rattle.mm_machine.proofs.machine.Machine.mark.Goals as goal

pub invariant_of-self : goal.invariant_of-self
invariant_of-self g c =
    rw c.in_err-push.ensures.items
    (raised_masked c.self.invariant c.max-self-inside.result c.for_itself-entry.result.needed
    c.max-self-inside.ensures c.for_itself-entry.ensures.is_entry.needed_le_count)

pub invariant_of-self-in_err-push-2 : goal.invariant_of-self-in_err-push-2
invariant_of-self-in_err-push-2 g c =
    let i = c.self.inside in
    let stack = i.stack.items in
    let n = c.len.result - 1 in
    let count_is = last_index i.nodes stack _ c.len.result (ap (λ s. s.stack) c.self.view_is)
    c.requires.has_entry (omega (arith, c.len.ensures, i.stack.ok.0)) in
    let m = c.index-top.result.now in
    let m_is : m ≡ get_or stack n no_entry =
    c.index-top.ensures ∙ get_or_default stack n m no_entry (omega (arith, count_is)) in
    let e = c.for_itself-entry.result in
    rw (c.in_err-push-2.ensures.items, c.in_ok-push.ensures.items)
    (record {
      is_machine =
          marked_machine
          c.self.invariant.is_machine n c.max-self-inside.result m e
          (omega (arith, count_is)) m_is
          c.for_itself-entry.ensures.is_entry c.for_itself-entry.ensures.formula_stays
          c.max-self-inside.ensures;
      has_masks =
          masks_with_marked c.self.invariant.has_masks n m e
          (omega (arith, count_is)) m_is c.for_itself-entry.ensures.formula_stays
          c.for_itself-entry.ensures.mask_stays;
    })

pub invariant_of-self-2 : goal.invariant_of-self-2
invariant_of-self-2 g c =
    let i = c.self.inside in
    let stack = i.stack.items in
    let n = c.len.result - 1 in
    let count_is = last_index i.nodes stack _ c.len.result (ap (λ s. s.stack) c.self.view_is)
    c.requires.has_entry (omega (arith, c.len.ensures, i.stack.ok.0)) in
    let m = c.index-top.result.now in
    let m_is : m ≡ get_or stack n no_entry =
    c.index-top.ensures ∙ get_or_default stack n m no_entry (omega (arith, count_is)) in
    let e = c.for_itself-entry.result in
    rw (c.in_ok-push-2.ensures.items, c.in_ok-push.ensures.items)
    (record {
      is_machine =
          machine_after_mark c.self.invariant.is_machine n c.max-self-inside.result m e
          (omega (arith, count_is)) m_is c.for_itself-entry.ensures.is_entry
          c.for_itself-entry.ensures.formula_stays c.max-self-inside.ensures c.args.step
          (subst (All (λ j. j < c.args.step)) (sym (ap (λ s. s.marks) c.self.view_is))
          c.requires.marks_lt_step);
      has_masks =
          masks_with_marked c.self.invariant.has_masks n m e
          (omega (arith, count_is)) m_is c.for_itself-entry.ensures.formula_stays
          c.for_itself-entry.ensures.mask_stays;
    })

pub returns-clause-marks_step : goal.returns-clause-marks_step
returns-clause-marks_step g c =
    let i = c.self.inside in
    let stack = i.stack.items in
    let n = c.len.result - 1 in
    let count_is = last_index i.nodes stack _ c.len.result (ap (λ s. s.stack) c.self.view_is)
    c.requires.has_entry (omega (arith, c.len.ensures, i.stack.ok.0)) in
    let m = c.index-top.result.now in
    rw (c.in_ok-push-2.ensures.items, c.in_ok-push.ensures.items) (marked_state i.nodes stack
    i.marks.items i.marked.items i.owners.variable_flags n c.args.step m c.for_itself-entry.result
    c.args.self.now c.self.view_is count_is (c.index-top.ensures ∙ get_or_default stack n m no_entry
    (omega (arith, count_is))) c.for_itself-entry.ensures.formula_stays)
