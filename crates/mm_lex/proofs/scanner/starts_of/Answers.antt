use Rattle.std.proofs.Common.{rules, ◌≡◌, ◌-◌, ℕ, Bool, min, if◌then◌else◌, arith}
use Rattle.std.proofs.lemmas.Grind.{common_steps}
use Rattle.std.proofs.lemmas.Bool.Decides.{nat_tests}
use mir.Val.{bool_byte}
use Rattle.mm_bytes.proofs.MaskLaw.{at_most_one}
use Rattle.mm_lex.proofs.BlockLaw.{first_start_bit, next_start_bit}
use Rattle.mm_lex.proofs.scanner.starts_of.Goals as goal

least_with_bit : (n : ℕ) (b : Bool) → min (1 - n) (bool_byte b) ≡ (if b then 1 - n else 0)
least_with_bit n b = grind (arith, common_steps)

pub returns-clause-first_bit : goal.returns-clause-first_bit
returns-clause-first_bit c = search (rules, arith, first_start_bit, at_most_one, least_with_bit)

pub returns-clause-next_bits : goal.returns-clause-next_bits
returns-clause-next_bits c = grind (arith, nat_tests, next_start_bit, at_most_one, c.from.ensures)
