use Rattle.mm_database.proofs.DisjointIndexLaw.{parted_if_equal}
use Rattle.std.proofs.Common.{refl, ◌∙◌, sym, true≢false}
use Rattle.mm_database.proofs.RowSearchLaw.{last_pair_answers}
use Rattle.mm_database.proofs.disjoint_index.is_active_in_row.Goals as goal

pub returns-then-last_has_symbol : goal.returns-then-last_has_symbol
returns-then-last_has_symbol g c =
    let last = c.last_has_symbol.ensures.has_if_true c.if-last_has_symbol.true in
    let counted = c.count_in_row-count.ensures in
    last_pair_answers c.args.blocks.now c.args.row.now c.args.symbol c.args.at c.requires _
    (parted_if_equal _ _ _ _ refl refl _ _ counted.result_le_length counted.earlier_are_before
    counted.later_are_not_before) _
    (λ is_open. (last.0, last.1, sym c.is_block_open.ensures ∙ is_open))
    (λ is_closed count_gt_0 last_is_y. sym c.is_block_open.ensures ∙ is_closed)

pub returns-else-last_has_symbol : goal.returns-else-last_has_symbol
returns-else-last_has_symbol g c =
    let none = c.if-last_has_symbol.false in
    let counted = c.count_in_row-count.ensures in
    last_pair_answers c.args.blocks.now c.args.row.now c.args.symbol c.args.at c.requires _
    (parted_if_equal _ _ _ _ refl refl _ _ counted.result_le_length counted.earlier_are_before
    counted.later_are_not_before) _ (λ ends. absurd (true≢false (sym ends ∙ none)))
    (λ differs count_gt_0 last_is_y. absurd
    (c.last_has_symbol.ensures.differs_if_false none count_gt_0 last_is_y))
