use Rattle.mm_rows.proofs.CellLaw.{AreCells}
use Rattle.mm_rows.proofs.cells.write_cells.Given as goal

abbrev pub invariant-loop-w : goal.invariant-loop-w
invariant-loop-w l = AreCells l.words l.into l.w
