use Rattle.mm_laws.proofs.ComparisonLaw.{has_all_of_itself, rests_on_nothing_more}
use Rattle.mm_laws.proofs.comparisons.statements_are_there_in_themselves.Goals as goal

pub returns : goal.returns
returns c =
    record { nothing_is_listed = has_all_of_itself; nothing_is_gained = rests_on_nothing_more }
