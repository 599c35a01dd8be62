use Rattle.std.proofs.Common.{◌∙◌}
use Rattle.mm_compare.proofs.BoundsLaw.{hypotheses_lt_length}
use Rattle.mm_compare.proofs.PairsLaw.{mandatory_pairs_are_below}
use Rattle.mm_compare.proofs.frames.has_same_frame.Goals as goal

pub are_same_hypotheses-requires-clause-hypotheses_lt_length :
    goal.are_same_hypotheses-requires-clause-hypotheses_lt_length
are_same_hypotheses-requires-clause-hypotheses_lt_length g c =
    rw (c.deref.ensures.value ∙ c.frame-frame.ensures.hypotheses)
    (hypotheses_lt_length c.args.database.now.statements c.args.k c.requires.k_is_assertion)

pub are_same_hypotheses-requires-clause-others_lt_length :
    goal.are_same_hypotheses-requires-clause-others_lt_length
are_same_hypotheses-requires-clause-others_lt_length g c =
    rw (c.deref-2.ensures.value ∙ c.frame-other_frame.ensures.hypotheses)
    (hypotheses_lt_length c.args.other.now.statements c.args.j c.requires.j_is_assertion)

pub are_same_pairs-requires-clause-are_pairs : goal.are_same_pairs-requires-clause-are_pairs
are_same_pairs-requires-clause-are_pairs g c =
    rw (c.deref-then-are_same_hypotheses.ensures.value, c.frame-frame.ensures.pairs)
    (mandatory_pairs_are_below c.args.database.now.statements c.args.k)

pub are_same_pairs-requires-clause-are_others : goal.are_same_pairs-requires-clause-are_others
are_same_pairs-requires-clause-are_others g c =
    rw (c.deref-then-are_same_hypotheses-2.ensures.value, c.frame-other_frame.ensures.pairs)
    (mandatory_pairs_are_below c.args.other.now.statements c.args.j)
