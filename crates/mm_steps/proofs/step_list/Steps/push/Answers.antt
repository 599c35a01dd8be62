use Rattle.std.proofs.Common.{◌≡◌, ◌++◌, ◌∷◌, [], ◌<◌, false, length, refl, sym, ap, ◌∙◌, arith}
use Rattle.std.proofs.Common.{get_or, subst, length-append}
use Rattle.std.proofs.lemmas.List.{get_or_default, length-map}
use Rattle.mm_spec.specs.Steps.{placed}
use Rattle.mm_steps.specs.declared.step_list.Placed.{Placed}
use Rattle.mm_steps.specs.declared.step_list.StepKind.TheVariants.{Marked}
use Rattle.mm_steps.specs.TheoremSteps.{theorem_steps, as_step, IsEarlier}
use Rattle.mm_steps.specs.StoredSteps.{placed_steps, placed_of, no_step}
use Rattle.mm_steps.proofs.StoredStepsLaw.{flags_with_marked_step, placed_steps_unchanged_by_set}
use Rattle.mm_steps.proofs.StoredStepsLaw.{placed_steps_push}
use Rattle.mm_steps.proofs.step_list.Steps.push.Goals as goal

pub invariant_of-self-in-Marked : goal.invariant_of-self-in-Marked
invariant_of-self-in-Marked g c =
    let stored = c.self.inside.steps.items in
    let pushed = c.push-in-Marked.new.self.items in
    let marked_step = c.in-Marked.earlier in
    let old_entry = c.index_mut.result.now in
    let entry : Placed =
    record { at = c.args.at; number = marked_step; kind = Marked; is_marked = false } in
    let is_pushed : pushed ≡ stored ++ entry ∷ [] = c.in_ok-push-in-Marked.ensures.items in
    let is_earlier : marked_step < length c.args.self.now.steps =
    subst (λ s. IsEarlier (as_step s) (length c.args.self.now.steps)) c.in-Marked.is c.requires in
    let same_length : length c.args.self.now.steps ≡ length stored =
    ap (λ r. length r.steps) (sym c.self.view_is) ∙ length-map stored placed_of in
    let marked_lt_length : marked_step < length pushed =
    let pushed_length = ap length is_pushed in omega
    (arith, is_earlier, same_length, pushed_length, length-append stored (entry ∷ [])) in
    let is_old_entry : old_entry ≡ get_or pushed marked_step no_step =
    c.index_mut.ensures.value
    ∙ sym (get_or_default pushed marked_step no_step old_entry marked_lt_length) in
    flags_with_marked_step stored pushed entry _ marked_step c.self.invariant is_pushed refl refl
    (omega (arith, is_earlier, same_length))
    (ap placed_of is_old_entry) refl

pub returns-in_ok-push-in-Marked-clause-step_is_added :
    goal.returns-in_ok-push-in-Marked-clause-step_is_added
returns-in_ok-push-in-Marked-clause-step_is_added g c =
    let stored = c.self.inside.steps.items in
    let pushed = c.push-in-Marked.new.self.items in
    let marked_step = c.in-Marked.earlier in
    let old_entry = c.index_mut.result.now in
    let entry : Placed =
    record { at = c.args.at; number = marked_step; kind = Marked; is_marked = false } in
    let is_pushed : pushed ≡ stored ++ entry ∷ [] = c.in_ok-push-in-Marked.ensures.items in
    let is_earlier : marked_step < length c.args.self.now.steps =
    subst (λ s. IsEarlier (as_step s) (length c.args.self.now.steps)) c.in-Marked.is c.requires in
    let same_length : length c.args.self.now.steps ≡ length stored =
    ap (λ r. length r.steps) (sym c.self.view_is) ∙ length-map stored placed_of in
    let marked_lt_length : marked_step < length pushed =
    let pushed_length = ap length is_pushed in omega
    (arith, is_earlier, same_length, pushed_length, length-append stored (entry ∷ [])) in
    let is_old_entry : old_entry ≡ get_or pushed marked_step no_step =
    c.index_mut.ensures.value
    ∙ sym (get_or_default pushed marked_step no_step old_entry marked_lt_length) in
    ap (theorem_steps c.self.inside.theorem)
    (placed_steps_unchanged_by_set pushed marked_step _ (ap placed_of is_old_entry)
    ∙ ap placed_steps is_pushed
    ∙ placed_steps_push stored entry
    ∙ ap (λ s. placed_steps stored ++ placed c.args.at (as_step s) ∷ []) (sym c.in-Marked.is))
    ∙ ap (λ r. theorem_steps r.theorem (r.steps ++ placed c.args.at (as_step c.args.step) ∷ []))
    c.self.view_is
