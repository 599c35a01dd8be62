use Rattle.std.proofs.Common.{◌+◌, ◌*◌, ◌/◌, ◌%◌, ◌^◌, arith, ap, sym, subst, ◌∙◌, w64}
use Rattle.std.proofs.lemmas.Nat.Bits.{bit_at-trailing_zeros, bit_at-zero}
use Rattle.std.specs.Int.{bit_at}
use Rattle.mm_rows.proofs.BitLaw.{IsSeeking, row_of_sought, search_begins_for_sought}
use Rattle.mm_rows.proofs.BitLaw.{search_goes_on_for_sought, lowest_bit_is_sought}
use Rattle.mm_rows.proofs.BitLaw.{no_bit_up_to_next_word, is_sought, is_not_sought}
use Rattle.mm_rows.proofs.bits.next_bit.Goals as goal

pub loop-word-init : goal.loop-word-init
loop-word-init c =
    let from = c.args.from in
    record {
      index_lt_length = c.if-row-word_index.false;
      length_le_2_31 = c.requires;
      from_lt_next = omega arith;
      is_seeking =
          subst (λ w. IsSeeking (row_of_sought c.args.set c.args.row.now) from (from / 64)
          (w / 2 ^ (from % 64) * 2 ^ (from % 64) % 2 ^ 64)) (sym c.sought_bits.ensures)
          (search_begins_for_sought c.args.set c.args.row.now from c.if-row-word_index.false
          (c.type_inv.row _).fits);
    }

pub returns-then-word-ne0-clause-is_first : goal.returns-then-word-ne0-clause-is_first
returns-then-word-ne0-clause-is_first c =
    let row = c.args.row.now in
    let set = c.args.set in
    let at_in_row = c.loop-word.invariant.index_lt_length in
    let lowest_bit =
    bit_at-trailing_zeros w64 c.loop-word.word (omega arith)
    c.loop-word.invariant.is_seeking.word_lt_2_64 in
    let found_bit =
    lowest_bit_is_sought (row_of_sought set row) c.args.from c.loop-word.word_index c.loop-word.word
    c.loop-word.invariant.is_seeking _ lowest_bit.0 lowest_bit.1 lowest_bit.2 in
    let bit_lt_64 = lowest_bit.0 in (
      found_bit.0,
      omega arith,
      is_sought set row _ (omega (arith, bit_lt_64, at_in_row)) (c.type_inv.row _).fits found_bit.1,
      λ k from_le_k k_lt_end.
          is_not_sought set row k (omega (arith, bit_lt_64, k_lt_end, at_in_row))
          (c.type_inv.row _).fits
          (found_bit.2 k from_le_k k_lt_end),
    )

pub returns-then-row-word_index-2-clause-none_is_there :
    goal.returns-then-row-word_index-2-clause-none_is_there
returns-then-row-word_index-2-clause-none_is_there c = λ k from_le_k k_lt_end.
    let row = c.args.row.now in
    let row_ends_at = c.if-row-word_index-2.true in
    is_not_sought c.args.set row k (omega (arith, k_lt_end)) (c.type_inv.row _).fits
    (no_bit_up_to_next_word (row_of_sought c.args.set row) c.args.from c.loop-word.word_index
    c.loop-word.word c.loop-word.invariant.is_seeking
    (λ b b_lt_64. ap (λ x. bit_at x b) c.if-word-ne0.false ∙ bit_at-zero b) k from_le_k
    (omega (arith, k_lt_end, row_ends_at)))

pub loop-word-preserved : goal.loop-word-preserved
loop-word-preserved c =
    let row = c.args.row.now in
    record {
      index_lt_length = c.if-row-word_index-2.false;
      length_le_2_31 = c.requires;
      from_lt_next = let from_bound = c.loop-word.invariant.from_lt_next in omega arith;
      is_seeking =
          subst (IsSeeking (row_of_sought c.args.set row) c.args.from (c.loop-word.word_index + 1))
          (sym c.sought_bits-word.ensures)
          (search_goes_on_for_sought c.args.set row c.args.from c.loop-word.word_index
          c.loop-word.word
          c.if-row-word_index-2.false (c.type_inv.row _).fits c.loop-word.invariant.from_lt_next
          c.loop-word.invariant.is_seeking c.if-word-ne0.false);
    }
