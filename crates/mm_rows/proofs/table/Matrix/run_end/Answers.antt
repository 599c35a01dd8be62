use Rattle.std.proofs.Common.{arith}
use Rattle.mm_rows.proofs.table.Matrix.run_end.Goals as goal

pub next_unmarked-requires-clause-first_lt_rows : goal.next_unmarked-requires-clause-first_lt_rows
next_unmarked-requires-clause-first_lt_rows g c =
    let rows_are = c.rows.ensures in let row_lt_rows = c.requires.first_lt_rows in
    omega (arith, rows_are, row_lt_rows)

pub returns-clause-result_le_rows : goal.returns-clause-result_le_rows
returns-clause-result_le_rows g c =
    let rows_are = c.rows.ensures in let end_le_rows = c.next_unmarked.ensures.result_le_rows in
    omega (arith, rows_are, end_le_rows)
