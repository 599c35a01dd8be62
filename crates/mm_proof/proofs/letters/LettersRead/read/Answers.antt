use Rattle.std.proofs.Common.{◌∷◌, [], refl, arith, sym, ap, ◌∙◌, ◌*◌, ◌+◌, ◌≡◌, subst, None}
use Rattle.mm_proof.specs.Number.{saturated}
use Rattle.mm_proof.specs.declared.letters.BegunNumber.{BegunNumber}
use Rattle.mm_proof.specs.Letters.{RefusesLetters, letter, with_number, ReadsLetters, if_begun}
use Rattle.mm_proof.proofs.LettersLaw.{on_same_err, stands_at_next, last_digit_is_in_range}
use Rattle.mm_proof.proofs.LettersLaw.{early_digit_is_in_range, continues_after_early_letter}
use Rattle.mm_proof.proofs.LettersLaw.{number_without_letters_is_not_begun}
use Rattle.mm_proof.proofs.letters.LettersRead.read.Goals as goal

pub returns-in_err-end_number-in-Last-clause-refuses :
    goal.returns-in_err-end_number-in-Last-clause-refuses
returns-in_err-end_number-in-Last-clause-refuses g c =
    on_same_err c.from_residual.result c.in_err-end_number-in-Last.field-0.0
    (RefusesLetters (with_number c.args.self.now (if_begun c.args.number.now))
    (letter c.args.at c.args.byte ∷ []))
    c.from_residual.ensures.1
    (c.in_err-end_number-in-Last.ensures.refuses c.args.byte c.in-Last.ensures)

pub returns-in_ok-end_number-in-Last-clause-is_read_after :
    goal.returns-in_ok-end_number-in-Last-clause-is_read_after
returns-in_ok-end_number-in-Last-clause-is_read_after g c =
    record { stands = c.in_ok-end_number-in-Last.ensures.stands_after; begins = λ value_is_0. refl }

pub returns-in_ok-mark-in-Mark-clause-is_read_after :
    goal.returns-in_ok-mark-in-Mark-clause-is_read_after
returns-in_ok-mark-in-Mark-clause-is_read_after g c =
    record { stands = c.in_ok-mark-in-Mark.ensures.stands_after; begins = λ value_is_0. refl }

pub returns-in-Early-clause-is_read_after : goal.returns-in-Early-clause-is_read_after
returns-in-Early-clause-is_read_after g c =
    let value_is = c.with_next_digit.ensures.value_is_saturated in
    let digit_in_range = early_digit_is_in_range c.args.byte c.in-Early.digit c.in-Early.ensures.0
    c.in-Early.ensures.1 in
    record {
      stands = stands_at_next c.args.self.now c.args.at c.requires.is_read_up_to.stands;
      begins = λ value_is_0. absurd (omega (arith, value_is_0, value_is, digit_in_range.0));
    }

pub end_number-requires-clause-digit_gt_0 : goal.end_number-requires-clause-digit_gt_0
end_number-requires-clause-digit_gt_0 g c =
    (last_digit_is_in_range c.args.byte c.in-Last.digit c.in-Last.ensures.1 c.in-Last.ensures.2).0

pub end_number-requires-clause-digit_le_20 : goal.end_number-requires-clause-digit_le_20
end_number-requires-clause-digit_le_20 g c =
    (last_digit_is_in_range c.args.byte c.in-Last.digit c.in-Last.ensures.1 c.in-Last.ensures.2).1

pub with_next_digit-requires-clause-digit_le_20 : goal.with_next_digit-requires-clause-digit_le_20
with_next_digit-requires-clause-digit_le_20 g c =
    (early_digit_is_in_range c.args.byte c.in-Early.digit c.in-Early.ensures.0
    c.in-Early.ensures.1).1

pub returns-in_err-mark-in-Mark-clause-refuses : goal.returns-in_err-mark-in-Mark-clause-refuses
returns-in_err-mark-in-Mark-clause-refuses g c =
    let value_is_0 : c.args.number.now.value ≡ 0 = omega arith in
    let number_is_none = number_without_letters_is_not_begun c.args.number.now value_is_0 in
    on_same_err c.from_residual-in_err-mark-in-Mark.result c.in_err-mark-in-Mark.field-0.0 _
    c.from_residual-in_err-mark-in-Mark.ensures.1
    (subst (λ b. RefusesLetters (with_number c.args.self.now (if_begun c.args.number.now))
    (letter c.args.at b ∷ []) c.in_err-mark-in-Mark.field-0.0) (sym c.in-Mark.ensures)
    (subst (λ m. RefusesLetters (with_number c.args.self.now m) (letter c.args.at 90 ∷ [])
    c.in_err-mark-in-Mark.field-0.0) (sym number_is_none) c.in_err-mark-in-Mark.ensures.refuses))

pub returns-in_ok-mark-in-Mark-clause-reads : goal.returns-in_ok-mark-in-Mark-clause-reads
returns-in_ok-mark-in-Mark-clause-reads g c =
    let value_is_0 : c.args.number.now.value ≡ 0 = omega arith in
    let number_is_none = number_without_letters_is_not_begun c.args.number.now value_is_0 in
    let number_after : BegunNumber =
    record { at = c.args.at + 1; value = c.args.number.now.value } in
    let number_after_is_none = number_without_letters_is_not_begun number_after value_is_0 in
    subst (λ b. ReadsLetters (with_number c.args.self.now (if_begun c.args.number.now))
    (letter c.args.at b ∷ []) (with_number c.mark.new.self (if_begun number_after)))
    (sym c.in-Mark.ensures)
    (subst (λ o. ReadsLetters (with_number c.args.self.now (if_begun c.args.number.now))
    (letter c.args.at 90 ∷ []) (with_number c.mark.new.self o)) (sym number_after_is_none)
    (subst (λ o. ReadsLetters (with_number c.args.self.now o) (letter c.args.at 90 ∷ [])
    (with_number c.mark.new.self None)) (sym number_is_none) c.in_ok-mark-in-Mark.ensures.reads))

pub returns-in-Early-clause-reads : goal.returns-in-Early-clause-reads
returns-in-Early-clause-reads g c =
    let s = c.args.self.now in
    record {
      theorem = refl;
      labels = refl;
      continues =
          continues_after_early_letter s.theorem s.labels s.marks c.args.number.now
          s.steps c.args.at c.args.byte
          c.with_next_digit.result c.requires.is_read_up_to.begins c.in-Early.ensures.0
          c.with_next_digit.ensures.place_stays (c.with_next_digit.ensures.value_is_saturated
          ∙ ap (λ d. saturated (5 * c.args.number.now.value + d)) c.in-Early.ensures.1);
    }
