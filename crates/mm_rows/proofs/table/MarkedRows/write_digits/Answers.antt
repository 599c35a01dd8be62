use Rattle.std.proofs.Common.{arith}
use Rattle.mm_rows.proofs.DigitLaw.{written_are_row_digits}
use Rattle.mm_rows.proofs.table.MarkedRows.write_digits.Goals as goal

pub slice_bounds-write_digits-end : goal.slice_bounds-write_digits-end
slice_bounds-write_digits-end g c = omega arith

pub returns : goal.returns
returns g c =
    written_are_row_digits c.args.self.now c.args.row c.row-words.result.now c.row-words.ensures
    c.args.word c.write_digits.new.into c.args.into.now c.requires.whole_words
    c.write_digits.ensures.length_stays c.write_digits.ensures.digits_are
