use Rattle.std.proofs.Common.{◌≡◌, ◌∙◌, ◌++◌, ◌∷◌, [], ◌+◌, ◌<◌, ℕ, List}
use Rattle.std.proofs.Common.{true≢false, ap, sym, map, take, get_or, length, subst, arith, zero}
use Rattle.std.proofs.Common.{suc, refl}
use Rattle.std.proofs.lemmas.Grind.{common_steps}
use Rattle.std.proofs.lemmas.List.{get_or-map, length-map, map_push, take_all, take_more}
use Rattle.mm_spec.specs.Report.{separated}
use Rattle.mm_spec.specs.ProofLine.{step_text}
use Rattle.mm_spec.specs.Steps as spec
use Rattle.mm_steps.specs.TheoremSteps.{as_step}
use Rattle.mm_steps.specs.declared.step_list.Step.TheVariants.{Label}
use Rattle.mm_report.specs.Rows.{next_label}
use Rattle.mm_report.specs.Told.{IsStepWithin}
use Rattle.mm_report.proofs.SentLaw.{sent_both, sent_equal_text}
use Rattle.mm_report.proofs.CitationLaw.{separated_push}
use Rattle.mm_report.proofs.proof_lines.send_steps.Goals as goal

pub send_next_step-requires : goal.send_next_step-requires
send_next_step-requires g c =
    let steps = c.args.steps.now in
    let i = c.loop-step.step-index in
    subst (IsStepWithin c.args.database.now.statements)
    (get_or-map as_step steps i (Label 0) (spec.label 0) c.loop-step-test.true)
    (c.requires i (spec.label 0) (omega (
      arith,
      c.loop-step-test.true,
      length-map steps as_step,
    )))

-- the texts of one step more
texts_grow : (f : spec.Step → List ℕ) (steps : List spec.Step) (i : ℕ) (d : spec.Step)
    → i < length steps
    → map f (take (i + 1) steps) ≡ map f (take i steps) ++ f (get_or steps i d) ∷ []
texts_grow f steps i d i_lt_length = grind (arith, common_steps, take_more, map_push)

-- before the first step there are none
none_before : (f : spec.Step → List ℕ) (steps : List spec.Step) (i : ℕ) → i ≡ 0
    → map f (take i steps) ≡ []
none_before f steps i i_is_zero = rw i_is_zero refl

some_before : (f : spec.Step → List ℕ) (steps : List spec.Step) (i : ℕ) → 0 < i → i < length steps
    → 0 < length (map f (take i steps))
some_before f [] i i_gt_zero i_lt_length = absurd (omega (arith, i_lt_length))
some_before f (s ∷ steps) zero i_gt_zero i_lt_length = absurd (omega (arith, i_gt_zero))
some_before f (s ∷ steps) (suc i) i_gt_zero i_lt_length = omega arith

pub loop-step-preserved : goal.loop-step-preserved
loop-step-preserved g c =
    let db = c.args.database.now.statements in
    let steps = map as_step c.args.steps.now in
    let i = c.loop-step.step-index in
    let before = map (step_text db) (take i steps) in
    let i_lt_length : i < length steps = omega (
      arith,
      c.loop-step-test.true,
      length-map c.args.steps.now as_step,
    ) in
    let next_is =
    get_or-map as_step c.args.steps.now i (Label 0) (spec.label 0) c.loop-step-test.true in
    record {
      first_has_none_before = λ false_is_true. absurd (true≢false (sym false_is_true));
      later_has_some_before = λ false_is_false. omega arith;
      sent =
          sent_equal_text _
          (sym (ap separated (texts_grow (step_text db) steps i (spec.label 0) i_lt_length)
          ∙ separated_push before (step_text db (get_or steps i (spec.label 0)))
          c.loop-step.is_first_step
          (λ is_first. none_before (step_text db) steps i
          (c.loop-step.invariant.first_has_none_before is_first))
          (λ is_later. some_before (step_text db) steps i
          (c.loop-step.invariant.later_has_some_before is_later) i_lt_length)))
          (sent_both c.loop-step.invariant.sent
          (sent_equal_text _
          (ap (λ s. next_label c.loop-step.is_first_step (step_text db s)) (sym next_is))
          c.send_next_step.ensures));
    }

pub returns : goal.returns
returns g c =
    let steps = map as_step c.args.steps.now in
    rw (take_all c.loop-step.step-index steps (omega (
      arith,
      c.loop-step-test.false,
      length-map c.args.steps.now as_step,
    )))
    at c.loop-step.invariant.sent
