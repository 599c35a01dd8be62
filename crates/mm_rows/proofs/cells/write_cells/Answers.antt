use Rattle.std.proofs.Common.{arith, ◌∙◌}
use Rattle.mm_rows.proofs.CellLaw.{next_cells_are_written}
use Rattle.mm_rows.proofs.cells.write_cells.Goals as goal

pub loop-w-preserved : goal.loop-w-preserved
loop-w-preserved c =
    next_cells_are_written c.args.words.now c.loop-w.into c.word_cells.result c.loop-w.w
    c.loop-w-test.true
    (c.loop-w.auto.into ∙ c.requires) c.word_cells.ensures.length_is c.word_cells.ensures.digits_are
    c.loop-w.invariant

pub returns-clause-digits_are : goal.returns-clause-digits_are
returns-clause-digits_are c =
    λ i i_lt_length. let into_has_size = c.requires in let words_are_ended = c.loop-w-test.false in
    c.loop-w.invariant i (omega (arith, i_lt_length, into_has_size, words_are_ended))
