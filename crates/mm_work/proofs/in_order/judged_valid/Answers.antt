use Rattle.std.proofs.Common.{◌∙◌}
use Rattle.mm_work.proofs.VerifyLaw.{all_have_citations}
use Rattle.mm_work.proofs.in_order.judged_valid.Goals as goal

pub new-requires : goal.new-requires
new-requires g c =
    (all_have_citations c.args.database.now.statements c.theorems.ensures.few_statements
    c.len.ensures.are_complete c.args.essential _ c.args.lists
    (c.in_ok-theorems.ensures.items_if_clones_equal (λ x y equal. equal)
    ∙ c.theorems.ensures.theorems) c.requires).0

pub returns : goal.returns
returns g c =
    rw c.new.ensures (all_have_citations c.args.database.now.statements
    c.theorems.ensures.few_statements c.len.ensures.are_complete c.args.essential _ c.args.lists
    (c.in_ok-theorems.ensures.items_if_clones_equal (λ x y equal. equal)
    ∙ c.theorems.ensures.theorems) c.requires).1
