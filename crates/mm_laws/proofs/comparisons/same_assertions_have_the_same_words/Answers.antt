use Rattle.mm_laws.proofs.ComparisonLaw.{say_the_same_in_words}
use Rattle.mm_laws.proofs.comparisons.same_assertions_have_the_same_words.Goals as goal

pub returns : goal.returns
returns c = say_the_same_in_words
