use Rattle.std.proofs.Common.{◌∙◌, ◌*◌, ◌+◌, ap, refl}
use Rattle.mm_proof.specs.Number.{saturated}
use Rattle.mm_proof.proofs.LettersLaw.{continues_after_last_letter, on_same_err}
use Rattle.mm_proof.proofs.LettersLaw.{stands_at_next_with_step}
use Rattle.mm_proof.specs.declared.refused.ProofRefused.TheVariants.{Memory}
use Rattle.mm_proof.proofs.letters.LettersRead.end_number.Goals as goal

pub returns-clause-reads : goal.returns-clause-reads
returns-clause-reads g c = λ byte is_last_letter.
    let s = c.args.self.now in
    rw (c.in_ok-add_step.ensures, c.with_next_digit-begun.ensures.place_stays)
    (record {
      theorem = refl;
      labels = refl;
      continues =
          continues_after_last_letter s.theorem s.labels s.marks c.args.number s.steps
          c.args._at byte _ c.requires.is_read_up_to.begins is_last_letter.0 is_last_letter.1
          (λ n saturated_equal. c.in-Some.ensures.step_is_of_number n
          (c.with_next_digit-begun.ensures.value_is_saturated
          ∙ ap (λ d. saturated (20 * c.args.number.value + d)) is_last_letter.2 ∙ saturated_equal));
    })

pub returns-in_err-add_step-clause-refuses : goal.returns-in_err-add_step-clause-refuses
returns-in_err-add_step-clause-refuses g c =
    on_same_err c.from_residual.result Memory _ c.from_residual.ensures.1
    (λ byte is_last_letter all unread continues. tt)

pub returns-clause-stands_after : goal.returns-clause-stands_after
returns-clause-stands_after g c =
    stands_at_next_with_step c.args.self.now c.add_step.new.self c.args._at _
    c.requires.is_read_up_to.stands c.in_ok-add_step.ensures
