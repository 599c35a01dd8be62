use Rattle.std.proofs.Common.{◌∙◌, sym, None, true≢false}
use Rattle.std.specs.Prelude.{slice_index}
use Rattle.std.specs.Option.{option_copied}
use Rattle.mm_spec.specs.Output.{theorems, columns}
use Rattle.mm_shifts.proofs.ElementsLaw.{element_is_assertion, element_is_axiom}
use Rattle.mm_shifts.proofs.ShiftedLaw.{shifted_unless_there}
use Rattle.mm_shifts.proofs.shifts.is_shifted.Goals.{then-cell, else-cell}
use Rattle.mm_shifts.proofs.shifts.is_shifted.Goals as goal

pub has_chosen_typecode-requires : goal.has_chosen_typecode-requires
has_chosen_typecode-requires g c =
    rw (c.database.ensures, c.axioms.ensures.axioms_are)
    (element_is_assertion c.args.this.now.contents.statements c.args.column
    c.requires.column_lt_count)

pub rests_there-requires-clause-is_axiom : goal.rests_there-requires-clause-is_axiom
rests_there-requires-clause-is_axiom g c =
    rw (c.axioms.ensures.axioms_are)
    (element_is_axiom c.args.this.now.contents.statements c.args.column
    c.requires.column_lt_count)

pub returns-then-has_chosen_typecode : goal.returns-then-has_chosen_typecode
returns-then-has_chosen_typecode g c =
    let n = slice_index (theorems c.args.this.now.contents.statements) c.args.row in
    let a = slice_index (columns c.args.this.now.contents.statements None) c.args.column in
    elim c.if-cell.branch [
      | then-cell w ↦ shifted_unless_there c.args.this.now c.args.other.now
          (option_copied c.args.only) n a c.rests_there.result (c.cell.ensures.0 w.if-cell.true)
          (rw (w.database.ensures, c.axioms.ensures.axioms_are)
          at (sym w.has_chosen_typecode.ensures ∙ sym w.value-is ∙ c.if-has_chosen_typecode.true))
          (rw (c.theorems.ensures.theorems_are, c.axioms.ensures.axioms_are)
          at c.rests_there.ensures)
      | else-cell w ↦ absurd (true≢false (sym c.if-has_chosen_typecode.true ∙ w.value-is
          ∙ w.if-cell.false))
    ]
