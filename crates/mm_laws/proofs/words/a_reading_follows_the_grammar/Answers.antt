use Rattle.mm_laws.proofs.GrammarLaw.{reading_IsReading}
use Rattle.mm_laws.proofs.words.a_reading_follows_the_grammar.Goals as goal

pub returns : goal.returns
returns c = reading_IsReading
