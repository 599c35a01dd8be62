use Rattle.std.proofs.Common.{◌∙◌, ◌+◌, ◌*◌, List, ℕ, slice_range, ap, subst}
use Rattle.mm_bits.specs.Bits.{HasBitsOf}
use Rattle.mm_machine.specs.FlagRows.{RowsOfFlags}
use Rattle.mm_machine.specs.declared.flag_rows.TheConstants.{ROW_WORDS}
use Rattle.mm_machine.proofs.FlagRowsLaw.{flags_of_row}
use Rattle.mm_machine.proofs.flag_rows.FlagRows.has_flags.Goals as goal

pub returns-else-columns-gt-ROW_WORDS : goal.returns-else-columns-gt-ROW_WORDS
returns-else-columns-gt-ROW_WORDS g c = λ is_true.
    let row = c.in-Some.row in
    let flags_are = c.deref.ensures.value ∙ ap (λ (r : RowsOfFlags). r.flags) c.self.view_is in
    record {
      row = row;
      is_row_of = c.in-Some.ensures.finds_symbol;
      has_flags = flags_of_row c.args.self.now.flags c.args.columns.now row
          c.if-columns-gt-ROW_WORDS.false
          (subst (λ (fs : List ℕ). HasBitsOf (slice_range fs (row * ROW_WORDS)
          (row * ROW_WORDS + ROW_WORDS)) c.args.columns.now) flags_are
          (c.has_all.ensures.0 is_true));
    }
