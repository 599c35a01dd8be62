use Rattle.std.proofs.Common.{refl, arith}
use Rattle.mm_rows.proofs.ChainLaw.{found_column_is_marked, past_columns_are_kept}
use Rattle.mm_rows.proofs.ChainLaw.{no_column_is_marked}
use Rattle.mm_rows.proofs.rows.mark_column.Goals as goal

pub set-requires : goal.set-requires
set-requires g c =
    let row_has_words = c.requires.row_has_words in
    let column_is_found = c.in-Some.ensures.is_index.0 in
    omega (arith, row_has_words, column_is_found)

pub returns-in-Some-clause-marks_column : goal.returns-in-Some-clause-marks_column
returns-in-Some-clause-marks_column g c =
    found_column_is_marked c.args.axioms.now c.args.row.now c.set.new.row c.in-Some.j
    c.args.statement c.in-Some.ensures.statements_rise c.in-Some.ensures.is_index c.set.ensures

pub returns-in-Some-clause-past_columns_stay : goal.returns-in-Some-clause-past_columns_stay
returns-in-Some-clause-past_columns_stay g c =
    past_columns_are_kept c.args.axioms.now c.args.row.now c.set.new.row c.in-Some.j
    c.args.statement c.in-Some.ensures.is_index c.set.ensures

pub returns-in_default-clause-marks_column : goal.returns-in_default-clause-marks_column
returns-in_default-clause-marks_column g c =
    no_column_is_marked c.args.axioms.now c.args.row.now c.args.statement
    c.in_default.ensures.is_missing

pub returns-in_default-clause-past_columns_stay : goal.returns-in_default-clause-past_columns_stay
returns-in_default-clause-past_columns_stay g c = λ j columns_le_j. refl
