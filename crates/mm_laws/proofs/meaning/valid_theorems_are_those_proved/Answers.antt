use Rattle.mm_laws.proofs.MeaningLaw.{valid_iff_proved}
use Rattle.mm_laws.proofs.meaning.valid_theorems_are_those_proved.Goals as goal

pub returns : goal.returns
returns c = valid_iff_proved
