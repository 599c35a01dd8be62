use Rattle.std.proofs.lemmas.Grind.{common_steps}
use Rattle.std.proofs.Common.{◌≡◌, ◌<◌, ◌+◌, ◌∙◌, false, refl, sym, arith, w64}
use Rattle.std.specs.Int.{trailing_zeros}
use Rattle.std.proofs.lemmas.Nat.Bits.{bit_at-trailing_zeros}
use Rattle.mm_spec.specs.Words.{begins_word}
use Rattle.mm_lex.proofs.BlockLaw.{bits_from, kept_bit_is_above_k, plain_with_none_before}
use Rattle.mm_lex.proofs.BlockLaw.{holds_up_to_next_bit, skipped_words_are_plain, one_bit_is_white}
use Rattle.mm_lex.proofs.scanner.WordScanner.skip_plain.Goals as goal

pub invariant_of-self-clause-begins : goal.invariant_of-self-clause-begins
invariant_of-self-clause-begins c i i_lt_64 place_in_text bit_is_one =
    grind (arith, common_steps, kept_bit_is_above_k)

pub invariant_of-self-clause-starts_ge_from : goal.invariant_of-self-clause-starts_ge_from
invariant_of-self-clause-starts_ge_from c i i_lt_64 bit_is_one =
    grind (arith, common_steps, kept_bit_is_above_k)

pub invariant_of-self-clause-begins_none : goal.invariant_of-self-clause-begins_none
invariant_of-self-clause-begins_none c i i_lt_64 place_in_text from_le_i bit_is_zero =
    let scanner = c.args.self.now in
    let lowest_bit = bit_at-trailing_zeros w64 scanner.starts (omega arith) (omega arith) in
    scanner.begins_none i i_lt_64 place_in_text
    (omega (
      arith,
      c.if-bit-end.true,
      scanner.starts_ge_from
          (trailing_zeros w64 scanner.starts) lowest_bit.0 lowest_bit.1,
    ))
    (sym (bits_from scanner.starts c.last_one-end.result i i_lt_64 (omega arith)) ∙ bit_is_zero)

pub returns-then-bit-end-clause-onward : goal.returns-then-bit-end-clause-onward
returns-then-bit-end-clause-onward c =
    let scanner = c.args.self.now in
    let lowest_bit = bit_at-trailing_zeros w64 scanner.starts (omega arith) (omega arith) in
    omega (
      arith,
      c.if-bit-end.true,
      scanner.starts_ge_from
          (trailing_zeros w64 scanner.starts) lowest_bit.0 lowest_bit.1,
    )

pub returns-then-bit-end-clause-are_plain : goal.returns-then-bit-end-clause-are_plain
returns-then-bit-end-clause-are_plain c =
    let scanner = c.args.self.now in
    let text = scanner.text.now in
    let end = c.last_one-end.result in
    let lowest_bit = bit_at-trailing_zeros w64 scanner.starts (omega arith) (omega arith) in
    let first = trailing_zeros w64 scanner.starts in
    let end_le_special = c.last_one-end.ensures.index_le_upto in
    let bit_is_one = c.last_one-end.ensures.one (omega (arith, c.if-bit-end.true)) in
    let end_lt_64 : end < 64 = omega (arith, end_le_special, c.min.ensures) in
    let end_in_text =
    (one_bit_is_white text scanner.base scanner.white scanner.white_is end end_lt_64
    bit_is_one).0 in
    plain_with_none_before text scanner.from (scanner.base + first) (scanner.base + end)
    (λ i from_le_i i_lt_first. holds_up_to_next_bit
    (λ t k. begins_word t k ≡ false) text text scanner.starts scanner.from scanner.from scanner.base
    first refl scanner.base_le_from
    (omega (arith, lowest_bit.0)) (λ k from_le_k k_lt_from _. absurd (omega arith))
    (λ k _ k_lt_first. lowest_bit.2 k k_lt_first)
    scanner.begins_none i from_le_i i_lt_first (omega (arith, end_in_text, c.if-bit-end.true)))
    (skipped_words_are_plain text scanner.base scanner.white scanner.stops first
    c.first_one-special.result
    (omega arith)
    scanner.white_is scanner.others_are_plain c.first_one-special.ensures.zeros end
    (omega (arith, end_le_special, c.min.ensures)) end_lt_64 bit_is_one)
