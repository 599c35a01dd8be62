use Rattle.std.proofs.Common.{◌≡◌, ◌<◌, ◌++◌, ◌∷◌, ◌∙◌, [], List, Bool, All, OnOk, length, ap}
use Rattle.std.proofs.Common.{sym, subst, arith}
use Rattle.mm_machine.specs.Entries.{entry_formulas}
use Rattle.mm_machine.specs.State.{machine_state}
use Rattle.mm_machine.proofs.MachineLaw.{pushed_state}
use Rattle.mm_machine.proofs.MaskedLaw.{pushed_masked, owned_masked}
use Rattle.mm_machine.proofs.machine.Machine.push_new.Goals as goal

pub invariant_of-self : goal.invariant_of-self
invariant_of-self g c =
    let masking = c.mask_of-mask.ensures in
    owned_masked c.self.invariant c.mask_of-mask.new.self masking.variables_stay masking.extends
    masking.stay_in_range

pub invariant_of-self-2 : goal.invariant_of-self-2
invariant_of-self-2 g c =
    let i = c.self.inside in
    let f = c.args.formula.now in
    let masking = c.mask_of-mask.ensures in
    let replacing = c.replace_by_symbols in
    pushed_masked c.self.invariant replacing.result c.mask_of-mask.new.self replacing.new.nodes
    replacing.new.stack.items c.len-below.result c.count-keep.result c.mask_of-mask.result
    c.deref.result.now f masking.variables_stay masking.extends masking.stay_in_range
    masking.are_masked (subst (λ n. All (λ s. s < n) f) (sym (ap (λ s. length s.variable_flags)
    c.self.view_is)) c.requires.in_range) replacing.ensures.is_stack
    (omega (arith, c.len-below.ensures, i.stack.ok.0)) c.count-keep.ensures.count_is
    (c.deref.ensures.value ∙ c.in_ok-list_symbols.ensures) replacing.ensures.nodes_are_kept
    replacing.ensures.formulas_are replacing.ensures.formulas_below_stay replacing.ensures.masks_are
    replacing.ensures.masks_below_stay

pub returns-clause-pushes_formula : goal.returns-clause-pushes_formula
returns-clause-pushes_formula g c =
    let i = c.self.inside in
    let f = c.args.formula.now in
    let old = c.args.self.now in
    let replacing = c.replace_by_symbols in
    subst (λ (vs : List Bool). OnOk replacing.result (machine_state
    (entry_formulas replacing.new.nodes replacing.new.stack.items) i.marks.items
    (entry_formulas replacing.new.nodes i.marked.items) vs ≡ machine_state (old.stack ++ f ∷ [])
    old.marks old.formulas old.variable_flags)) (sym c.mask_of-mask.ensures.variables_stay)
    (pushed_state c.self.invariant.is_machine replacing.result replacing.new.nodes
    replacing.new.stack.items replacing.ensures.is_stack c.len-below.result c.count-keep.result
    c.deref.result.now f (omega (arith, c.len-below.ensures, i.stack.ok.0))
    c.count-keep.ensures.count_is (c.deref.ensures.value ∙ c.in_ok-list_symbols.ensures)
    replacing.ensures.nodes_are_kept replacing.ensures.formulas_are old c.self.view_is)
