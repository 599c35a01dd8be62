use Rattle.mm_laws.proofs.ComparisonLaw.{exchanged_texts_exchange_sections}
use Rattle.mm_laws.proofs.comparisons.exchanged_texts_exchange_sections.Goals as goal

pub returns : goal.returns
returns c = exchanged_texts_exchange_sections
