use Rattle.std.proofs.lemmas.Grind.{common_steps}
use Rattle.std.proofs.Common.{◌<◌, ◌∷◌, ◌∙◌, [], All, length, refl, ap}
use Rattle.std.proofs.Common.{sym, subst, arith}
use Rattle.mm_machine.proofs.MachineLaw.{pushed_state}
use Rattle.mm_machine.proofs.MaskedLaw.{pushed_masked, pair_is}
use Rattle.mm_machine.proofs.StackLaw.{extends_unchanged}
use Rattle.mm_machine.proofs.machine.Machine.push.Goals as goal

pub invariant_of-self : goal.invariant_of-self
invariant_of-self g c =
    let i = c.self.inside in
    let f = c.args.formula.now in
    let t = c.symbol-typecode.result in
    let s = c.symbol-symbol.result in
    let masking = c.mask_of-both.ensures in
    let replacing = c.replace_by_pair in
    pushed_masked c.self.invariant replacing.result c.mask_of-both.new.self i.nodes
    replacing.new.stack.items c.len-below.result (length i.nodes) c.mask_of-both.result (t ∷ s ∷ [])
    f masking.variables_stay masking.extends masking.stay_in_range masking.are_masked
    (subst (λ n. All (λ s. s < n) f) (sym (ap (λ s. length s.variable_flags) c.self.view_is))
    c.requires.in_range) replacing.ensures.is_stack
    (omega (arith, c.len-below.ensures, i.stack.ok.0))
    refl (pair_is f t s c.index-formula-0.result c.index-formula-1.result
    c.if-formula-eq2.true (c.symbol-typecode.ensures ∙ c.number.ensures) c.index-formula-0.is
    (c.symbol-symbol.ensures ∙ c.number-then-formula-eq2.ensures) c.index-formula-1.is)
    (extends_unchanged i.nodes i.nodes (length i.nodes) refl) replacing.ensures.formulas_are
    replacing.ensures.formulas_below_stay replacing.ensures.masks_are
    replacing.ensures.masks_below_stay

pub returns-then-formula-eq2-clause-pushes_formula :
    goal.returns-then-formula-eq2-clause-pushes_formula
returns-then-formula-eq2-clause-pushes_formula g c =
    grind (arith, common_steps, pushed_state, pair_is, extends_unchanged)
