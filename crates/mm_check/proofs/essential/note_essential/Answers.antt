use Rattle.std.proofs.Common.{rules, ◌≡◌, ◌-◌, ◌<◌, ◌||◌, false, length, drop, take_at, replicate}
use Rattle.std.proofs.Common.{refl, sym, ap, ◌∙◌, subst, arith}
use Rattle.std.proofs.lemmas.Bool.{or_left}
use Rattle.std.proofs.lemmas.List.{get_or_default}
use Rattle.mm_spec.specs.Citation.{context_at}
use Rattle.mm_steps.specs.TheoremSteps.{as_step}
use Rattle.mm_check.specs.Flags.{step_flags_after}
use Rattle.mm_check.proofs.CompilerStateLaw.{good_step_label_is_below}
use Rattle.mm_check.proofs.ReachLaw.{step_at_is_good}
use Rattle.mm_check.proofs.BackLaw.{flag_at, step_flags_count}
use Rattle.mm_check.proofs.WalkLaw.{AreFoundFrom, walked_at_start, has_entry_flag, walked_by_value}
use Rattle.mm_check.proofs.WalkLaw.{walked_to_start, good_step_is_earlier}
use Rattle.mm_check.proofs.essential.note_essential.Goals.{then-flag, else-flag}
use Rattle.mm_check.proofs.essential.note_essential.Goals as goal

pub loop-i-init : goal.loop-i-init
loop-i-init g c = search (rules, arith, replicate, walked_at_start)

pub pop_flag-flag-requires : goal.pop_flag-flag-requires
pop_flag-flag-requires g c =
    has_entry_flag c.args.database.now.statements c.args.theorem c.args.steps.now.steps c.loop-i.i
    (c.loop-i.i - 1) c.loop-i.entry_flags.items c.loop-i.step_flags.items c.loop-i.noted
    c.loop-i.invariant (omega (arith, c.loop-i-test.true, c.loop-i.auto.i, c.len-i.ensures))
    (omega (arith, c.loop-i-test.true))

pub undo_step-requires-clause-label_is_below : goal.undo_step-requires-clause-label_is_below
undo_step-requires-clause-label_is_below g c =
    let db = c.args.database.now.statements in
    let i = c.loop-i.i - 1 in
    let step = as_step c.step.result in
    good_step_label_is_below db c.args.theorem i step
    (step_at_is_good (context_at db c.args.theorem) c.args.steps.now.steps i i step
    (omega (arith, c.loop-i-test.true, c.loop-i.auto.i, c.len-i.ensures))
    c.requires.are_steps.are_good refl c.step.ensures)

pub undo_step-requires-clause-repeats_earlier : goal.undo_step-requires-clause-repeats_earlier
undo_step-requires-clause-repeats_earlier g c =
    let db = c.args.database.now.statements in
    let steps = c.args.steps.now.steps in
    let i = c.loop-i.i - 1 in
    let step = as_step c.step.result in
    let i_lt_length_steps : i < length steps =
    omega (arith, c.loop-i-test.true, c.loop-i.auto.i, c.len-i.ensures) in
    let flags_fit = ap length c.deref_mut.ensures.value ∙ c.loop-i.invariant.step_flags_fit in
    good_step_is_earlier (context_at db c.args.theorem) i (length c.deref_mut.result.now) step
    (omega (arith, i_lt_length_steps, flags_fit))
    (step_at_is_good (context_at db c.args.theorem) steps i i step i_lt_length_steps
    c.requires.are_steps.are_good refl c.step.ensures)

pub loop-i-preserved : goal.loop-i-preserved
loop-i-preserved g c =
    let steps = c.args.steps.now.steps in
    let i = c.loop-i.i - 1 in
    let step = as_step c.step.result in
    let step_flags = c.loop-i.step_flags.items in
    let is_essential = c.if-flag.is_essential in
    let undone = c.undo_step.new in
    let i_lt_length_steps : i < length steps =
    omega (arith, c.loop-i-test.true, c.loop-i.auto.i, c.len-i.ensures) in
    let length_is : length step_flags ≡ c.loop-i.step_flags.len = search rules in
    let is_essential_is : is_essential ≡ (c.pop_flag-flag.result || flag_at step_flags i) =
    elim c.if-flag.branch [
      | then-flag w ↦ w.is_essential-is ∙ w.if-flag.true
          ∙ sym (or_left c.pop_flag-flag.result (flag_at step_flags i) w.if-flag.true)
      | else-flag w ↦ w.is_essential-is ∙ w.index.ensures
          ∙ sym (get_or_default step_flags i false w.index.result.now
          (omega (arith, i_lt_length_steps, c.loop-i.invariant.step_flags_fit)))
          ∙ sym (ap (λ f. f || flag_at step_flags i) w.if-flag.false)
    ] in
    let step_flags_are : undone.step_flags ≡ step_flags_after is_essential step step_flags =
    c.in_ok-undo_step.ensures.sets_step_flag
    ∙ ap (step_flags_after is_essential step) c.deref_mut.ensures.value in
    let length_stays : length undone.step_flags ≡ c.loop-i.step_flags.len =
    ap length step_flags_are ∙ step_flags_count is_essential step step_flags ∙ length_is in
    let written_flags_are =
    take_at undone.step_flags (drop (length undone.step_flags) step_flags) c.loop-i.step_flags.len
    length_stays
    ∙ step_flags_are in
    walked_by_value c.args.database.now.statements c.args.theorem steps c.loop-i.i i
    c.loop-i.entry_flags.items step_flags c.loop-i.noted c.loop-i.invariant i_lt_length_steps
    (omega (arith, c.loop-i-test.true)) c.pop_flag-flag.new.entry_flags.items c.pop_flag-flag.result
    is_essential step undone.entry_flags.items _ undone.noted c.pop_flag-flag.ensures
    is_essential_is c.requires.are_steps.are_good c.step.ensures
    c.in_ok-undo_step.ensures.pushes_taken_flags written_flags_are
    c.in_ok-undo_step.ensures.notes_applied

pub returns : goal.returns
returns g c =
    let db = c.args.database.now.statements in
    let steps = c.args.steps.now.steps in
    let entry_flags = c.loop-i.entry_flags.items in
    let step_flags = c.loop-i.step_flags.items in
    let i_is_0 : c.loop-i.i ≡ 0 = omega (arith, c.loop-i-test.false) in
    walked_to_start db c.args.theorem steps c.requires.are_steps.is_complete entry_flags step_flags
    c.loop-i.noted
    (subst (λ n. AreFoundFrom db c.args.theorem steps n entry_flags step_flags c.loop-i.noted)
    i_is_0 c.loop-i.invariant)
