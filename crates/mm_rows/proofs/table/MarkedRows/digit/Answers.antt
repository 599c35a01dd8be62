use Rattle.std.proofs.Common.{◌∙◌}
use Rattle.mm_rows.proofs.DigitLaw.{row_four_is_digit}
use Rattle.mm_rows.proofs.table.MarkedRows.digit.Goals as goal

pub returns : goal.returns
returns g c =
    c.digit_value.ensures
    ∙ row_four_is_digit c.args.self.now c.args.row c.row-words.result.now c.row-words.ensures
    c.args.i
