use Rattle.mm_laws.proofs.WavesLaw.{have_waves}
use Rattle.mm_laws.proofs.cells.theorems_have_one_wave.Goals as goal

pub returns : goal.returns
returns c = have_waves
