use Rattle.std.proofs.Common.{rules, arith}
use Rattle.mm_tell.proofs.ListsLaw.{dummies_rise}
use Rattle.mm_tell.proofs.pairs.is_with_dummy.Goals as goal

pub has_number-requires : goal.has_number-requires
has_number-requires g c = search (rules, arith, dummies_rise, c.requires.are_dummies)

pub has_number-requires-else-has_number : goal.has_number-requires-else-has_number
has_number-requires-else-has_number g c =
    search (rules, arith, dummies_rise, c.requires.are_dummies)
