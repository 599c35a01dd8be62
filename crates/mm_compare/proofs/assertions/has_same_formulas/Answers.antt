use Rattle.std.proofs.Common.{◌∙◌}
use Rattle.mm_compare.proofs.BoundsLaw.{assertion_lt_length, hypotheses_lt_length}
use Rattle.mm_compare.proofs.assertions.has_same_formulas.Goals as goal

pub are_same_hypotheses-requires-clause-hypotheses_lt_length :
    goal.are_same_hypotheses-requires-clause-hypotheses_lt_length
are_same_hypotheses-requires-clause-hypotheses_lt_length g c =
    rw (c.deref.ensures.value ∙ c.frame-frame.ensures.hypotheses)
    (hypotheses_lt_length c.args.database.now.statements c.args.k c.requires.k_is_assertion)

pub are_same_hypotheses-requires-clause-others_lt_length :
    goal.are_same_hypotheses-requires-clause-others_lt_length
are_same_hypotheses-requires-clause-others_lt_length g c =
    rw (c.deref-2.ensures.value ∙ c.frame-other_frame.ensures.hypotheses)
    (hypotheses_lt_length c.args.other.now.statements c.args.j c.requires.j_is_assertion)

pub formula-requires : goal.formula-requires
formula-requires g c =
    assertion_lt_length c.args.database.now.statements c.args.k c.requires.k_is_assertion

pub formula-requires-then-are_same_hypotheses : goal.formula-requires-then-are_same_hypotheses
formula-requires-then-are_same_hypotheses g c =
    assertion_lt_length c.args.other.now.statements c.args.j c.requires.j_is_assertion
