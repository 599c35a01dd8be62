use Rattle.mm_laws.proofs.SomeFaultLaw.{is_sound_or_faulty}
use Rattle.mm_laws.proofs.readings.texts_are_sound_or_faulty.Goals as goal

pub returns : goal.returns
returns c = is_sound_or_faulty
