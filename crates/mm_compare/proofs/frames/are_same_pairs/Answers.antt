use Rattle.std.proofs.Common.{length, arith}
use Rattle.mm_spec.specs.Frame.{symbol_names}
use Rattle.mm_compare.proofs.PairsLaw.{pair_is_below}
use Rattle.mm_compare.proofs.frames.are_same_pairs.Goals as goal

pub has_same_name-requires-clause-x_lt_count : goal.has_same_name-requires-clause-x_lt_count
has_same_name-requires-clause-x_lt_count g c =
    (pair_is_below (length (symbol_names c.args.database.now.statements)) c.args.pairs.now
    c.loop-i.i c.index-pairs-i.result c.loop-i-test.true c.requires.are_pairs).0

pub has_same_name-requires-clause-y_lt_count : goal.has_same_name-requires-clause-y_lt_count
has_same_name-requires-clause-y_lt_count g c =
    (pair_is_below (length (symbol_names c.args.other.now.statements)) c.args.others.now
    c.loop-i.i c.index-others-i.result (omega arith) c.requires.are_others).0

pub has_same_name-requires-else-not-has_same_name-clause-x_lt_count :
    goal.has_same_name-requires-else-not-has_same_name-clause-x_lt_count
has_same_name-requires-else-not-has_same_name-clause-x_lt_count g c =
    (pair_is_below (length (symbol_names c.args.database.now.statements)) c.args.pairs.now
    c.loop-i.i c.index-pairs-i-in-loop-i.result c.loop-i-test.true c.requires.are_pairs).1

pub has_same_name-requires-else-not-has_same_name-clause-y_lt_count :
    goal.has_same_name-requires-else-not-has_same_name-clause-y_lt_count
has_same_name-requires-else-not-has_same_name-clause-y_lt_count g c =
    (pair_is_below (length (symbol_names c.args.other.now.statements)) c.args.others.now
    c.loop-i.i c.index-others-i-in-loop-i.result (omega arith) c.requires.are_others).1
