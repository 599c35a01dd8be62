use Rattle.mm_rows.proofs.DigitLaw.{number_of_four}
use Rattle.mm_rows.proofs.digits.digit_value.Goals as goal

pub returns : goal.returns
returns c = number_of_four c.args.word c.args.k
