use Rattle.std.proofs.Common.{◌≡◌, ◌<◌, ◌+◌, ◌∙◌, ℕ, true, List, length, refl, sym, ap, subst}
use Rattle.std.proofs.Common.{arith, w64}
use Rattle.std.specs.Int.{bit_at, trailing_zeros}
use Rattle.std.proofs.lemmas.Nat.Bits.{bit_at-trailing_zeros, bit_at-zero}
use Rattle.mm_spec.specs.Words.{begins_word}
use Rattle.mm_lex.proofs.BlockLaw.{other_bits_are_kept, remaining_bit_is_other}
use Rattle.mm_lex.proofs.BlockLaw.{remaining_bits_are_above}
use Rattle.mm_lex.proofs.ScannerLaw.{no_words_up_to, none_begins_up_to}
use Rattle.mm_lex.proofs.scanner.WordScanner.next_start.Goals as goal

pub returns-then-to-self-clause-is_first : goal.returns-then-to-self-clause-is_first
returns-then-to-self-clause-is_first c =
    let scanner = c.loop-self.self in
    let before = c.loop-self.invariant in
    no_words_up_to scanner c.args.self.now.text.now c.args.self.now.from before.texts_equal
    before.none_begins 64 (omega arith)
    (λ k _. ap (λ (n : ℕ). bit_at n k) c.loop-self-test.true ∙ bit_at-zero k) c.args.to
    c.requires.to_le_length
    (omega (arith, before.old_from_le_from, scanner.from_le_block_end)) c.if-to-self.true

pub loop-self-preserved : goal.loop-self-preserved
loop-self-preserved c =
    let scanner = c.loop-self.self in
    let before = c.loop-self.invariant in
    record {
      texts_equal = c.next_block.ensures.text_is ∙ before.texts_equal;
      old_from_le_from = omega (
        arith,
        before.old_from_le_from,
        scanner.from_le_block_end,
        c.next_block.ensures.from_is,
      );
      none_begins = λ i from_le_i i_lt_end.
          none_begins_up_to scanner c.args.self.now.text.now c.args.self.now.from
          before.texts_equal before.none_begins 64 (omega arith)
          (λ k _. ap (λ (n : ℕ). bit_at n k) c.loop-self-test.true ∙ bit_at-zero k) i from_le_i
          (omega (arith, c.next_block.ensures.from_is));
    }

pub returns-then-to-start-clause-is_first : goal.returns-then-to-start-clause-is_first
returns-then-to-start-clause-is_first c =
    let scanner = c.loop-self.self in
    let before = c.loop-self.invariant in
    let lowest_bit =
    bit_at-trailing_zeros w64 scanner.starts (omega (arith, c.loop-self-test.false))
    (omega arith) in
    no_words_up_to scanner c.args.self.now.text.now c.args.self.now.from before.texts_equal
    before.none_begins (trailing_zeros w64 scanner.starts) (omega (arith, lowest_bit.0))
    lowest_bit.2 c.args.to c.requires.to_le_length
    (omega (
      arith,
      before.old_from_le_from,
      scanner.starts_ge_from (trailing_zeros w64 scanner.starts) lowest_bit.0 lowest_bit.1,
    )) c.if-to-start.true

pub invariant_of-self-clause-begins : goal.invariant_of-self-clause-begins
invariant_of-self-clause-begins c i i_lt_64 place_in_text bit_is_one =
    let scanner = c.loop-self.self in
    let lowest_bit =
    bit_at-trailing_zeros w64 scanner.starts (omega (arith, c.loop-self-test.false))
    (omega arith) in
    scanner.begins i i_lt_64 place_in_text
    (remaining_bit_is_other scanner.starts (trailing_zeros w64 scanner.starts) lowest_bit.0 i
    i_lt_64
    bit_is_one).1

pub invariant_of-self-clause-starts_ge_from : goal.invariant_of-self-clause-starts_ge_from
invariant_of-self-clause-starts_ge_from c i i_lt_64 bit_is_one =
    let scanner = c.loop-self.self in
    let lowest_bit =
    bit_at-trailing_zeros w64 scanner.starts (omega (arith, c.loop-self-test.false))
    (omega arith) in
    omega (
      arith,
      remaining_bits_are_above scanner.starts (trailing_zeros w64 scanner.starts)
          lowest_bit.0
          lowest_bit.2 i i_lt_64 bit_is_one,
    )

pub invariant_of-self-clause-begins_none : goal.invariant_of-self-clause-begins_none
invariant_of-self-clause-begins_none c i i_lt_64 place_in_text from_le_i bit_is_zero =
    let scanner = c.loop-self.self in
    let lowest_bit =
    bit_at-trailing_zeros w64 scanner.starts (omega (arith, c.loop-self-test.false))
    (omega arith) in
    scanner.begins_none i i_lt_64 place_in_text (omega (
      arith,
      from_le_i,
      scanner.starts_ge_from (trailing_zeros w64 scanner.starts) lowest_bit.0
          lowest_bit.1,
    ))
    (sym (other_bits_are_kept scanner.starts (trailing_zeros w64 scanner.starts) lowest_bit.0 i
    i_lt_64
    (λ i_is_bit. omega (arith, i_is_bit, from_le_i)))
    ∙ bit_is_zero)

pub returns-clause-is_first : goal.returns-clause-is_first
returns-clause-is_first c =
    let scanner = c.loop-self.self in
    let text = c.args.self.now.text.now in
    let invariant_before = c.loop-self.invariant in
    let lowest_bit =
    bit_at-trailing_zeros w64 scanner.starts (omega (arith, c.loop-self-test.false))
    (omega arith) in
    let start_in_text : scanner.base + trailing_zeros w64 scanner.starts < length scanner.text.now =
    subst (λ (t : List ℕ). scanner.base + trailing_zeros w64 scanner.starts < length t)
    (sym invariant_before.texts_equal)
    (omega (arith, c.requires.to_le_length, c.if-to-start.false)) in
    record {
      from_le_start =
          omega (
            arith,
            invariant_before.old_from_le_from,
            scanner.starts_ge_from
                (trailing_zeros w64 scanner.starts) lowest_bit.0 lowest_bit.1,
          );
      start_lt_to = omega (arith, c.if-to-start.false);
      begins =
          subst (λ (t : List ℕ). begins_word t (scanner.base + trailing_zeros w64 scanner.starts)
          ≡ true)
          invariant_before.texts_equal
          (scanner.begins (trailing_zeros w64 scanner.starts) lowest_bit.0 start_in_text
          lowest_bit.1);
      none_before_start = λ i from_le_i i_lt_end.
          none_begins_up_to scanner text c.args.self.now.from invariant_before.texts_equal
          invariant_before.none_begins (trailing_zeros w64 scanner.starts)
          (omega (arith, lowest_bit.0)) lowest_bit.2 i from_le_i i_lt_end
          (omega (arith, c.requires.to_le_length, c.if-to-start.false));
    }

pub returns-clause-is_taken : goal.returns-clause-is_taken
returns-clause-is_taken c =
    let scanner = c.loop-self.self in
    let lowest_bit =
    bit_at-trailing_zeros w64 scanner.starts (omega (arith, c.loop-self-test.false))
    (omega arith) in
    let start_in_text : scanner.base + trailing_zeros w64 scanner.starts < length scanner.text.now =
    subst (λ (t : List ℕ). scanner.base + trailing_zeros w64 scanner.starts < length t)
    (sym c.loop-self.invariant.texts_equal)
    (omega (arith, c.requires.to_le_length, c.if-to-start.false)) in
    record {
      from_is_next = refl;
      base_le_start = omega arith;
      start_lt_length = start_in_text;
      begins =
          scanner.begins (trailing_zeros w64 scanner.starts) lowest_bit.0 start_in_text
          lowest_bit.1;
    }

pub returns-then-to-self-clause-none_left : goal.returns-then-to-self-clause-none_left
returns-then-to-self-clause-none_left c =
    let scanner = c.loop-self.self in
    no_words_up_to scanner c.args.self.now.text.now scanner.from c.loop-self.invariant.texts_equal
    (λ k from_le_k k_lt_from _. absurd (omega arith)) 64 (omega arith)
    (λ k _. ap (λ (n : ℕ). bit_at n k) c.loop-self-test.true ∙ bit_at-zero k) c.args.to
    c.requires.to_le_length scanner.from_le_block_end c.if-to-self.true

pub returns-then-to-start-clause-none_left : goal.returns-then-to-start-clause-none_left
returns-then-to-start-clause-none_left c =
    let scanner = c.loop-self.self in
    let lowest_bit =
    bit_at-trailing_zeros w64 scanner.starts (omega (arith, c.loop-self-test.false))
    (omega arith) in
    no_words_up_to scanner c.args.self.now.text.now scanner.from c.loop-self.invariant.texts_equal
    (λ k from_le_k k_lt_from _. absurd (omega arith)) (trailing_zeros w64 scanner.starts)
    (omega (arith, lowest_bit.0)) lowest_bit.2 c.args.to c.requires.to_le_length
    (scanner.starts_ge_from (trailing_zeros w64 scanner.starts) lowest_bit.0 lowest_bit.1)
    c.if-to-start.true
