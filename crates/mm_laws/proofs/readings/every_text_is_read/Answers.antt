use Rattle.mm_laws.proofs.SomeReadingLaw.{is_readable}
use Rattle.mm_laws.proofs.readings.every_text_is_read.Goals as goal

pub returns : goal.returns
returns c = is_readable
