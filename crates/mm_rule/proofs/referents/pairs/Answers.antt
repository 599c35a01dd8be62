use Rattle.std.proofs.Common.{ap, ◌∙◌}
use Rattle.mm_rule.specs.Assertions.{as_pairs}
use Rattle.mm_rule.proofs.FrameLaw.{pairs_lt_symbol_count}
use Rattle.mm_rule.proofs.DisjointLaw.{frame_pairs_are_disjoint}
use Rattle.mm_rule.proofs.referents.pairs.Goals as goal

pub returns-clause-pairs_in_range : goal.returns-clause-pairs_in_range
returns-clause-pairs_in_range g c =
    pairs_lt_symbol_count c.args.database.now.statements c.args.assertion c.as_slice.result.now
    (ap as_pairs c.as_slice.ensures.value ∙ c.frame.ensures.pairs)

pub returns-clause-pairs_are_disjoint : goal.returns-clause-pairs_are_disjoint
returns-clause-pairs_are_disjoint g c =
    frame_pairs_are_disjoint c.args.database.now.statements c.args.assertion c.as_slice.result.now
    (ap as_pairs c.as_slice.ensures.value ∙ c.frame.ensures.pairs)
