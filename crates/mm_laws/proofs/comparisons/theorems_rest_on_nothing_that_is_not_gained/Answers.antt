use Rattle.mm_laws.proofs.ComparisonLaw.{rests_on_nothing_that_is_not_gained}
use Rattle.mm_laws.proofs.comparisons.theorems_rest_on_nothing_that_is_not_gained.Goals as goal

pub returns : goal.returns
returns c = rests_on_nothing_that_is_not_gained
