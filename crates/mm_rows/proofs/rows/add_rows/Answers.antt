use Rattle.std.proofs.Common.{◌≡◌, ◌+◌, length, subst, sym, arith}
use Rattle.mm_rows.specs.BitRows.{AreBitRows}
use Rattle.mm_rows.specs.Bits.{words_for}
use Rattle.mm_rows.proofs.RowsLaw.{bit_rows_with_next, no_rows_are_bit_rows, ends_with_next}
use Rattle.mm_rows.proofs.RowsLaw.{no_rows_end}
use Rattle.mm_rows.proofs.rows.add_rows.Goals as goal

pub loop-i-init : goal.loop-i-init
loop-i-init g c =
    record {
      row_has_words = c.requires.row_has_words;
      are_bit_rows = subst (AreBitRows c.args.citations.now c.args.axioms.now 0)
          (sym c.requires.bits_are_empty)
          (no_rows_are_bit_rows c.args.citations.now c.args.axioms.now);
      are_ends = rw (c.requires.bits_are_empty, c.requires.ends_are_empty)
          (no_rows_end (words_for (length c.args.axioms.now)));
    }

pub loop-i-preserved : goal.loop-i-preserved
loop-i-preserved g c =
    record {
      row_has_words = c.fill_row.ensures.has_words;
      are_bit_rows =
          subst (AreBitRows c.args.citations.now c.args.axioms.now (c.loop-i.i + 1))
          (sym c.in_ok-extend_from_slice.ensures.items)
          (bit_rows_with_next c.args.citations.now c.args.axioms.now c.loop-i.i c.loop-i.bits.items
          c.fill_row.new.row c.loop-i.invariant.are_bit_rows c.fill_row.ensures);
      are_ends = rw (c.in_ok-extend_from_slice.ensures.items, c.in_ok-push.ensures.items)
          (ends_with_next c.loop-i.bits.items c.fill_row.new.row c.loop-i.ends.items
          (words_for (length c.args.axioms.now)) c.loop-i.i c.words_with_bits.result
          c.loop-i.invariant.are_bit_rows.size_is c.fill_row.ensures.has_words
          c.loop-i.invariant.are_ends c.words_with_bits.ensures);
    }

pub returns : goal.returns
returns g c =
    let i_is_end : c.loop-i.i ≡ length c.args.citations.now.theorems = omega arith in
    subst (λ n. AreBitRows c.args.citations.now c.args.axioms.now n c.loop-i.bits.items) i_is_end
    c.loop-i.invariant.are_bit_rows
