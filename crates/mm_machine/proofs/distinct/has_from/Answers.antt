use Rattle.std.proofs.Common.{eqb-true, sym, ◌∙◌}
use Rattle.mm_machine.proofs.DistinctLaw.{contained_by_index}
use Rattle.mm_machine.proofs.distinct.has_from.Goals as goal

pub returns-then-index-list : goal.returns-then-index-list
returns-then-index-list c = λ is_equal.
    contained_by_index c.args.start _ c.args.symbol c.index-list-index.result c.args.list.now
    c.if-index-start.false c.if-index-list.true c.index-list-index.is
    (eqb-true _ _ (sym c.eq.ensures ∙ is_equal))
