use Rattle.std.proofs.Common.{◌∙◌, sym}
use Rattle.mm_compare.proofs.FramesLaw.{same_by_formula}
use Rattle.mm_compare.proofs.BoundsLaw.{assertion_lt_length}
use Rattle.mm_compare.proofs.assertions.says_same.Goals as goal

pub has_same_formula-requires-clause-k_lt_length :
    goal.has_same_formula-requires-clause-k_lt_length
has_same_formula-requires-clause-k_lt_length g c =
    assertion_lt_length c.args.database.now.statements c.args.k c.requires.k_is_assertion

pub has_same_formula-requires-clause-j_lt_length :
    goal.has_same_formula-requires-clause-j_lt_length
has_same_formula-requires-clause-j_lt_length g c =
    assertion_lt_length c.args.other.now.statements c.args.j c.requires.j_is_assertion

pub returns-then-finds_same_frame-clause-says_same :
    goal.returns-then-finds_same_frame-clause-says_same
returns-then-finds_same_frame-clause-says_same g c =
    c.has_same_formula.ensures
    ∙ sym (same_by_formula c.args.database.now.statements c.args.other.now.statements c.args.k
    c.args.j (sym c.finds_same_frame.ensures.has_same_frame ∙ c.if-finds_same_frame.true))
