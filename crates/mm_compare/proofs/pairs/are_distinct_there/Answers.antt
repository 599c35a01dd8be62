use Rattle.mm_compare.proofs.PairsLaw.{mandatory_pairs_are_below}
use Rattle.mm_compare.proofs.pairs.are_distinct_there.Goals as goal

pub are_pairs_distinct_there-requires-clause-are_pairs :
    goal.are_pairs_distinct_there-requires-clause-are_pairs
are_pairs_distinct_there-requires-clause-are_pairs g c =
    rw (c.deref.ensures.value, c.frame.ensures.pairs)
    (mandatory_pairs_are_below c.args.database.now.statements c.args.assertion)
