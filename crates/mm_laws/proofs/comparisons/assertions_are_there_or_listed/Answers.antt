use Rattle.mm_laws.proofs.ComparisonLaw.{is_there_or_listed}
use Rattle.mm_laws.proofs.comparisons.assertions_are_there_or_listed.Goals as goal

pub returns : goal.returns
returns c = is_there_or_listed
