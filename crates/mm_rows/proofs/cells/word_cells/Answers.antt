use Rattle.mm_rows.proofs.CellLaw.{lane_is_digit}
use Rattle.mm_rows.proofs.cells.word_cells.Goals as goal

pub returns-clause-digits_are : goal.returns-clause-digits_are
returns-clause-digits_are c = λ k k_lt_64. lane_is_digit c.args.word k c.ranges.word.fits k_lt_64
