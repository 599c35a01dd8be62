use Rattle.std.proofs.Common.{sym, ◌∙◌}
use Rattle.mm_proof.proofs.UsableLaw.{undeclared_is_unusable, inactive_is_unusable}
use Rattle.mm_proof.proofs.UsableLaw.{active_is_usable}
use Rattle.mm_proof.proofs.labels.usable_label.Goals as goal

pub returns-in-None : goal.returns-in-None
returns-in-None g c =
    undeclared_is_unusable c.args.database.now.statements c.args.theorem c.args.label.now
    c.in-None.ensures.none_has_label

pub returns-then-active_at : goal.returns-then-active_at
returns-then-active_at g c =
    active_is_usable c.args.database.now.statements c.args.theorem c.args.label.now
    c.in-Some.statement c.in-Some.ensures.is_unique c.in-Some.ensures.has_label.1
    (sym c.active_at.ensures ∙ c.if-active_at.true)

pub returns-else-active_at : goal.returns-else-active_at
returns-else-active_at g c =
    inactive_is_unusable c.args.database.now.statements c.args.theorem c.args.label.now
    c.in-Some.statement c.in-Some.ensures.is_unique (sym c.active_at.ensures ∙ c.if-active_at.false)
