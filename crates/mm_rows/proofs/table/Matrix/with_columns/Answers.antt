use Rattle.std.proofs.Common.{subst}
use Rattle.mm_rows.specs.MarkBits.{AreBitsOfColumns}
use Rattle.mm_rows.specs.Marks.{Marks}
use Rattle.mm_rows.proofs.TableLaw.{bits_of_transposed}
use Rattle.mm_rows.proofs.table.Matrix.with_columns.Goals as goal

pub invariant_of-result : goal.invariant_of-result
invariant_of-result g c =
    let table = c.marked.inside in
    let columns = c.in_ok-columns_bits.columns_bits.items in
    subst (λ (m : Marks). AreBitsOfColumns m columns) c.marked.view_is
    (bits_of_transposed table.rows table.columns table.bits.items c.marked.invariant columns
    (rw c.deref.ensures.value at c.in_ok-columns_bits.ensures))
