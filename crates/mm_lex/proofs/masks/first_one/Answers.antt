use Rattle.std.proofs.Common.{rules, arith, ◌^◌, ◌<◌, ◌/◌}
use Rattle.std.proofs.Math.Nat.{div-le_self}
use Rattle.mm_lex.proofs.MaskLaw.{no_bits_left, next_bit_is_one, zero_bits_before_next}
use Rattle.mm_lex.proofs.MaskLaw.{next_bit_lt_64}
use Rattle.mm_lex.proofs.masks.first_one.Goals as goal
use Rattle.mm_lex.proofs.masks.first_one.Goals.{Else-rest-eq0}

shifted_fits : (c : Else-rest-eq0) → c.args.mask / 2 ^ c.args.from < 2 ^ 64
shifted_fits c = omega (arith, div-le_self c.args.mask (2 ^ c.args.from), c.ranges.mask.fits)

pub returns-then-rest-eq0-clause-zeros : goal.returns-then-rest-eq0-clause-zeros
returns-then-rest-eq0-clause-zeros c i from_le_i i_lt_next = search (rules, arith, no_bits_left)

pub returns-else-rest-eq0-clause-index_le_64 : goal.returns-else-rest-eq0-clause-index_le_64
returns-else-rest-eq0-clause-index_le_64 c = search (rules, arith, next_bit_lt_64, shifted_fits)

pub returns-else-rest-eq0-clause-zeros : goal.returns-else-rest-eq0-clause-zeros
returns-else-rest-eq0-clause-zeros c = search (rules, arith, zero_bits_before_next, shifted_fits)

pub returns-else-rest-eq0-clause-one : goal.returns-else-rest-eq0-clause-one
returns-else-rest-eq0-clause-one c i_lt_next = search (rules, arith, next_bit_is_one, shifted_fits)
