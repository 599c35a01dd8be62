use Rattle.std.proofs.Common.{length, ap, ◌∙◌, sym, subst, refl}
use Rattle.mm_machine.specs.Entries.{AreInRange, entry_formulas}
use Rattle.mm_machine.specs.State.{MachineState, machine_state}
use Rattle.mm_machine.specs.Applied.{AnswersStep}
use Rattle.mm_machine.proofs.MachineLaw.{marked_formulas_stay, is_applied_if_kept}
use Rattle.mm_machine.proofs.MaskedLaw.{applied_masked}
use Rattle.mm_machine.proofs.machine.Machine.apply_to_premises.Goals as goal

pub invariant_of-self : goal.invariant_of-self
invariant_of-self g c =
    let i = c.self.inside in
    let applying = c.apply_rule in
    applied_masked c.self.invariant applying.new.nodes applying.new.stack.items
    applying.ensures.is_stack applying.ensures.nodes_are_kept (subst (λ n. AreInRange n
    (entry_formulas applying.new.nodes applying.new.stack.items))
    (sym (ap (λ s. length s.variable_flags) c.self.view_is ∙ c.requires.are_variables.count_is))
    applying.ensures.formulas_in_range) applying.ensures.are_masked

pub returns-clause-is_applied : goal.returns-clause-is_applied
returns-clause-is_applied g c =
    let i = c.self.inside in
    let db = c.args.database.now.statements in
    let t = c.args.theorem in
    let a = c.args.rule.now.assertion in
    let applying = c.apply_rule in
    let state_after = machine_state
    (entry_formulas applying.new.nodes applying.new.stack.items) i.marks.items
    (entry_formulas applying.new.nodes i.marked.items) i.owners.variable_flags in
    subst (λ (s : MachineState). AnswersStep db t a s state_after applying.result) c.self.view_is
    (is_applied_if_kept db t a (machine_state (entry_formulas i.nodes i.stack.items) i.marks.items
    (entry_formulas i.nodes i.marked.items) i.owners.variable_flags) state_after applying.result
    applying.ensures.entries_are applying.ensures.has_entry applying.ensures.refusal_is_right refl
    (marked_formulas_stay c.self.invariant.is_machine applying.new.nodes
    applying.new.stack.items
    applying.ensures.is_stack applying.ensures.nodes_are_kept) refl)
