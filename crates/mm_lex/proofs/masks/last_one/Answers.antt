use Rattle.std.proofs.Common.{rules, arith}
use Rattle.std.proofs.lemmas.Bool.Decides.{nat_tests}
use Rattle.mm_lex.proofs.MaskLaw.{last_bit_is_one, last_place_le_k}
use Rattle.mm_lex.proofs.masks.last_one.Goals as goal

pub overflow_sub-result : goal.overflow_sub-result
overflow_sub-result c = grind (arith, nat_tests, last_place_le_k, c.requires, c.if-rest-eq0.false)

pub returns-else-rest-eq0-clause-one : goal.returns-else-rest-eq0-clause-one
returns-else-rest-eq0-clause-one c _ = search (rules, arith, last_bit_is_one)
