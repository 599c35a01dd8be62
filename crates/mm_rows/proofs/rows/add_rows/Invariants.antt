use Rattle.std.proofs.Common.{◌≡◌, length}
use Rattle.mm_rows.specs.Bits.{words_for}
use Rattle.mm_rows.specs.BitRows.{AreBitRows, AreEnds}
use Rattle.mm_rows.proofs.rows.add_rows.Given as goal

abbrev pub invariant-loop-i : goal.invariant-loop-i
invariant-loop-i g l =
    record {
      row_has_words : length l.row ≡ words_for (length l.axioms);
      are_bit_rows : AreBitRows l.citations l.axioms l.i l.bits.items;
      are_ends : AreEnds l.bits.items (words_for (length l.axioms)) l.i l.ends.items;
    }
