use Rattle.mm_rows.proofs.DigitLaw.{AreDigits}
use Rattle.mm_rows.proofs.digits.write_digits.Given as goal

abbrev pub invariant-loop-w : goal.invariant-loop-w
invariant-loop-w l = AreDigits l.words l.into l.w
