use Rattle.mm_against.proofs.FoundLaw.{found_are_differences}
use Rattle.mm_against.proofs.laws.found_differences_are_defined.Goals as goal

pub returns : goal.returns
returns c = found_are_differences
