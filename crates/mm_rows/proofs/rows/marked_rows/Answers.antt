use Rattle.std.proofs.Common.{length, subst}
use Rattle.mm_rows.specs.BitRows.{AreBitRows}
use Rattle.mm_rows.proofs.TableLaw.{bit_rows_are_table, bit_rows_are_matrix}
use Rattle.mm_rows.proofs.rows.marked_rows.Goals as goal

pub of_bits-requires : goal.of_bits-requires
of_bits-requires g c =
    bit_rows_are_table c.args.citations.now c.args.columns.now c.in_ok-bits.bits.items c.rows.result
    c.len.result c.rows.ensures.is_file_order.theorems_rise c.len.ensures.statements_rise
    (subst (λ xs. AreBitRows c.args.citations.now xs (length c.args.citations.now.theorems)
    c.in_ok-bits.bits.items) c.statements.ensures.statements_are c.in_ok-bits.ensures)
    c.rows.ensures.count_is c.len.ensures.len_is

pub returns : goal.returns
returns g c =
    bit_rows_are_matrix c.args.citations.now c.args.columns.now c.in_ok-bits.bits.items
    c.rows.result c.len.result c.of_bits.result
    (subst (λ xs. AreBitRows c.args.citations.now xs (length c.args.citations.now.theorems)
    c.in_ok-bits.bits.items) c.statements.ensures.statements_are c.in_ok-bits.ensures)
    c.rows.ensures.count_is c.len.ensures.len_is c.of_bits.ensures
