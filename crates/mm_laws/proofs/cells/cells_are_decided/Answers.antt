use Rattle.mm_laws.proofs.SomeOutputLaw.{cells_are_decided}
use Rattle.mm_laws.proofs.cells.cells_are_decided.Goals as goal

pub returns : goal.returns
returns c = cells_are_decided
