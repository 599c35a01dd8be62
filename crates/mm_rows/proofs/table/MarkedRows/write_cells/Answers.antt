use Rattle.std.proofs.Common.{arith}
use Rattle.mm_rows.proofs.CellLaw.{written_are_row_cells}
use Rattle.mm_rows.proofs.table.MarkedRows.write_cells.Goals as goal

pub slice_bounds-write_cells-end : goal.slice_bounds-write_cells-end
slice_bounds-write_cells-end g c = omega arith

pub returns : goal.returns
returns g c =
    written_are_row_cells c.args.self.now c.args.row c.row-words.result.now c.row-words.ensures
    c.args.word c.write_cells.new.into c.args.into.now c.requires.whole_words
    c.write_cells.ensures.length_stays c.write_cells.ensures.digits_are
