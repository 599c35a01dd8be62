use Rattle.std.proofs.Common.{◌≡◌, ◌<◌, ◌∙◌, length, get_or, ap, arith}
use Rattle.std.proofs.lemmas.List.{get_or_default}
use Rattle.mm_machine.specs.Entries.{no_entry}
use Rattle.mm_machine.proofs.MachineLaw.{repeated_machine, repeated_state}
use Rattle.mm_machine.proofs.OwnersLaw.{masks_with_repeated}
use Rattle.mm_machine.proofs.machine.Machine.push_marked.Goals as goal

pub invariant_of-self-2 : goal.invariant_of-self-2
invariant_of-self-2 g c =
    let i = c.self.inside in
    let index = c.args.index in
    let index_lt : index < length i.marked.items =
    omega (
      arith,
      c.requires,
      ap (λ s. length s.marks) c.self.view_is,
      c.self.invariant.is_machine.enough_marked,
    ) in
    let m = c.index.result.now in
    let m_is : m ≡ get_or i.marked.items index no_entry =
    c.index.ensures ∙ get_or_default i.marked.items index m no_entry index_lt in
    rw c.in_ok-push.ensures.items
    (record {
      is_machine =
          repeated_machine c.self.invariant.is_machine index m c.for_top-entry.result index_lt m_is
          c.for_top-entry.ensures.is_entry c.for_top-entry.ensures.formula_stays
          c.for_top-entry.ensures.needs_all;
      has_masks =
          masks_with_repeated c.self.invariant.has_masks index m c.for_top-entry.result index_lt
          m_is c.for_top-entry.ensures.formula_stays c.for_top-entry.ensures.mask_stays;
    })

pub returns-clause-pushes_formula : goal.returns-clause-pushes_formula
returns-clause-pushes_formula g c =
    let i = c.self.inside in
    let index = c.args.index in
    let index_lt : index < length i.marked.items =
    omega (
      arith,
      c.requires,
      ap (λ s. length s.marks) c.self.view_is,
      c.self.invariant.is_machine.enough_marked,
    ) in
    let m = c.index.result.now in
    rw c.in_ok-push.ensures.items (repeated_state c.self.invariant.is_machine index m
    c.for_top-entry.result index_lt (c.index.ensures ∙ get_or_default i.marked.items index m
    no_entry index_lt) c.for_top-entry.ensures.is_entry c.for_top-entry.ensures.formula_stays
    c.for_top-entry.ensures.needs_all c.args.self.now c.self.view_is)
