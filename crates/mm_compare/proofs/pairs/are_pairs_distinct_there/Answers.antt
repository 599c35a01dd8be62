use Rattle.std.proofs.Common.{length}
use Rattle.mm_spec.specs.Frame.{symbol_names}
use Rattle.mm_compare.proofs.PairsLaw.{pair_is_below}
use Rattle.mm_compare.proofs.pairs.are_pairs_distinct_there.Goals as goal

pub is_distinct_there-requires-clause-low_lt_count :
    goal.is_distinct_there-requires-clause-low_lt_count
is_distinct_there-requires-clause-low_lt_count g c =
    (pair_is_below (length (symbol_names c.args.database.now.statements)) c.args.pairs.now
    c.loop-i.i c.index-pairs-i.result c.loop-i-test.true c.requires.are_pairs).0

pub is_distinct_there-requires-clause-high_lt_count :
    goal.is_distinct_there-requires-clause-high_lt_count
is_distinct_there-requires-clause-high_lt_count g c =
    (pair_is_below (length (symbol_names c.args.database.now.statements)) c.args.pairs.now
    c.loop-i.i c.index-pairs-i-in-loop-i.result c.loop-i-test.true c.requires.are_pairs).1
