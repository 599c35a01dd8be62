use Rattle.std.proofs.lemmas.Grind.{common_steps}
use Rattle.std.proofs.Common.{arith}
use Rattle.mm_lex.proofs.BlockLaw.{bits_from, kept_bit_is_above_k}
use Rattle.mm_lex.proofs.scanner.WordScanner.new.Goals as goal

pub invariant_of-result-clause-begins : goal.invariant_of-result-clause-begins
invariant_of-result-clause-begins c i i_lt_64 place_in_text bit_is_one =
    grind (arith, common_steps, kept_bit_is_above_k)

pub invariant_of-result-clause-starts_ge_from : goal.invariant_of-result-clause-starts_ge_from
invariant_of-result-clause-starts_ge_from c i i_lt_64 bit_is_one =
    grind (arith, common_steps, kept_bit_is_above_k, c.at-block.ensures.base_is)

pub invariant_of-result-clause-begins_none : goal.invariant_of-result-clause-begins_none
invariant_of-result-clause-begins_none c i i_lt_64 place_in_text from_le_i bit_is_zero =
    grind (arith, common_steps, bits_from, c.at-block.ensures.base_is, c.at-block.ensures.from_is)
