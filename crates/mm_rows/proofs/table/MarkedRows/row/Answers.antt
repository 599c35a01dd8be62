use Rattle.std.proofs.Common.{◌<◌, ◌*◌, ◌∙◌, ap, length, subst, sym}
use Rattle.mm_rows.specs.MarkBits.{AreBitsOfRow}
use Rattle.mm_rows.specs.Marks.{Marks}
use Rattle.mm_rows.proofs.TableLaw.{bits_of_table_row}
use Rattle.mm_rows.proofs.TransposeLaw.{row_end_le_length}
use Rattle.mm_rows.proofs.table.MarkedRows.row.Goals as goal

pub row_words-requires : goal.row_words-requires
row_words-requires g c =
    let size_is = c.self.invariant.size_is in
    row_end_le_length c.div_ceil-width.result c.args.row c.self.inside.rows
    (length c.deref.result.now)
    (subst (λ (m : Marks). c.args.row < m.rows) (sym c.self.view_is) c.requires)
    (ap length c.deref.ensures.value ∙ size_is
    ∙ sym (ap (λ n. c.self.inside.rows * n) c.div_ceil-width.ensures))

pub returns : goal.returns
returns g c =
    let bits = c.self.inside.bits.items in
    let has_bits = bits_of_table_row c.self.inside.rows c.self.inside.columns bits c.self.invariant
    c.args.row (subst (λ (m : Marks). c.args.row < m.rows) (sym c.self.view_is) c.requires) in
    subst (λ (m : Marks). AreBitsOfRow m c.args.row c.row_words.result.now) c.self.view_is
    (rw (
      c.row_words.ensures,
      c.div_ceil-width.ensures,
      c.deref.ensures.value,
    ) has_bits)
