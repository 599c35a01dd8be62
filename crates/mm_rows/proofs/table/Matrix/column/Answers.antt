use Rattle.std.proofs.Common.{◌*◌, ◌∙◌, ap, length, subst, sym}
use Rattle.mm_rows.specs.Bits.{words_for}
use Rattle.mm_rows.specs.MarkBits.{AreBitsOfColumns}
use Rattle.mm_rows.proofs.TransposeLaw.{row_end_le_length}
use Rattle.mm_rows.proofs.table.Matrix.column.Goals as goal

pub row_words-requires : goal.row_words-requires
row_words-requires g c =
    let have_bits =
    subst (λ m. AreBitsOfColumns m c.self.inside.columns_bits.items) c.self.view_is c.self.invariant
    in
    row_end_le_length c.div_ceil-height.result c.args.column c.args.self.now.columns
    (length c.deref.result.now) c.requires
    (ap length c.deref.ensures.value ∙ have_bits.size_is
    ∙ sym (ap (λ n. c.args.self.now.columns * n)
    (c.div_ceil-height.ensures ∙ ap words_for c.rows.ensures)))

pub returns : goal.returns
returns g c =
    let have_bits =
    subst (λ m. AreBitsOfColumns m c.self.inside.columns_bits.items) c.self.view_is c.self.invariant
    in
    rw (
      c.row_words.ensures,
      c.div_ceil-height.ensures,
      c.rows.ensures,
      c.deref.ensures.value,
    ) (have_bits.each_has_bits c.args.column c.requires)
