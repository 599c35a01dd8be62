use Rattle.std.proofs.Common.{◌≡◌, ◌∙◌, ap, sym, take}
use Rattle.std.specs.List.{list_all}
use Rattle.std.proofs.lemmas.List.{take_all}
use Rattle.mm_spec.specs.CompressedProof.{is_early_letter}
use Rattle.mm_proof.specs.Number.{saturated}
use Rattle.mm_proof.proofs.NumberLaw.{no_number_with_late_byte, saturated_is_number}
use Rattle.mm_proof.proofs.NumberLaw.{saturated_is_too_large, early_bytes}
use Rattle.mm_proof.proofs.numerals.number.Goals as goal

pub returns-in_default-letter_of-clause-is_too_large :
    goal.returns-in_default-letter_of-clause-is_too_large
returns-in_default-letter_of-clause-is_too_large c =
    rw c.in_ok-last.ensures.cases.0
    (λ n is_number. absurd
    (no_number_with_late_byte _ _ n _ _ _ c.loop-byte-test.true c.letter_of-in-loop-byte.ensures
    c.in_default-letter_of.not-Early is_number))

pub returns-clause-value_is : goal.returns-clause-value_is
returns-clause-value_is c =
    let bs = c.in_ok-last.early.now in
    let take_is_all : take c.loop-byte.byte-index bs ≡ bs =
    take_all c.loop-byte.byte-index bs c.loop-byte-test.false in
    let last_has_digit = c.in-Last.ensures in
    rw (c.ok.ensures.value, c.in_ok-last.ensures.cases.0)
    (saturated_is_number c.try_from.result bs c.in_ok-last.last.now c.loop-byte.value
    c.with_digit.result
    c.try_from.ensures (c.loop-byte.invariant.value
    ∙ ap (λ z. saturated (early_bytes z)) take_is_all)
    (rw last_has_digit.2 at c.with_digit.ensures)
    (sym (ap (list_all is_early_letter) take_is_all) ∙ c.loop-byte.invariant.early)
    last_has_digit.1)

pub returns-clause-is_too_large : goal.returns-clause-is_too_large
returns-clause-is_too_large c =
    let bs = c.in_ok-last.early.now in
    let take_is_all : take c.loop-byte.byte-index bs ≡ bs =
    take_all c.loop-byte.byte-index bs c.loop-byte-test.false in
    let last_has_digit = c.in-Last.ensures in
    rw (c.ok.ensures.value, c.in_ok-last.ensures.cases.0)
    (saturated_is_too_large c.try_from.result bs c.in_ok-last.last.now c.loop-byte.value
    c.with_digit.result
    c.try_from.ensures (c.loop-byte.invariant.value
    ∙ ap (λ z. saturated (early_bytes z)) take_is_all)
    (rw last_has_digit.2 at c.with_digit.ensures))
