use Rattle.mm_rows.proofs.DigitLaw.{half_is_hex_digit}
use Rattle.mm_rows.proofs.digits.word_digits.Goals as goal

pub returns-clause-digits_are : goal.returns-clause-digits_are
returns-clause-digits_are c = λ k k_lt_16. half_is_hex_digit c.args.word k c.ranges.word.fits
    k_lt_16
