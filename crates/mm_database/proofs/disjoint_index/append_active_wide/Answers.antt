use Rattle.std.proofs.Common.{sym, ap, ◌∙◌, arith}
use Rattle.mm_database.specs.DisjointIndex.{PairLists}
use Rattle.mm_database.proofs.DisjointIndexLaw.{added_open, added_closed, all_are_added}
use Rattle.mm_database.proofs.DisjointIndexLaw.{parted_if_equal}
use Rattle.mm_database.proofs.disjoint_index.append_active_wide.Goals as goal
use Rattle.mm_database.proofs.disjoint_index.append_active_wide.Goals.{then-is_block_open+in_ok-push}
use Rattle.mm_database.proofs.disjoint_index.append_active_wide.Goals.{else-is_block_open}

pub loop-by_symbol-preserved : goal.loop-by_symbol-preserved
loop-by_symbol-preserved g c =
    let blocks = c.args.blocks.now in
    let pairs = c.as_slice-by_symbol.ensures.value ∙ ap (λ (i : PairLists). i.by_symbol)
    c.disjoint_index.view_is in
    let start = c.count_before-end.ensures in
    let parted = parted_if_equal _ _ _ c.args.symbol pairs c.number.ensures c.args.at _
    start.result_le_length start.earlier_are_before start.later_are_not_before in
    let last = c.last_has_symbol.ensures.has_if_true c.loop-by_symbol-test.true in
    let next_lt_end = c.skip_last-end.ensures.result_lt_end in
    let closed = c.skip_last-end.ensures.skipped_are_closed in
    elim c.if-is_block_open.branch [
      | then-is_block_open+in_ok-push w ↦ (
        omega (arith, next_lt_end, c.loop-by_symbol.invariant.0),
        rw (
          w.by_statement-is,
          w.in_ok-push.ensures.items,
          pairs,
          w.number-then-is_block_open.ensures,
        )
            (added_open blocks _ c.requires.well_formed.rising c.args.symbol c.args.at _ parted _ _
            _ _ c.loop-by_symbol.invariant.1 last.0
            (rw (pairs, c.number-in-loop-by_symbol.ensures) at last.1)
            (rw pairs at (sym c.is_block_open.ensures ∙ w.if-is_block_open.true)) next_lt_end
            closed),
      )
      | else-is_block_open w ↦ (
        omega (arith, next_lt_end, c.loop-by_symbol.invariant.0),
        rw w.by_statement-is (added_closed blocks _ c.requires.well_formed.rising c.args.symbol
            c.args.at _ parted _ _ _ _ c.loop-by_symbol.invariant.1 last.0
            (rw pairs at (sym c.is_block_open.ensures ∙ w.if-is_block_open.false)) next_lt_end
            closed),
      )
    ]

pub returns : goal.returns
returns g c =
    let pairs = c.as_slice-by_symbol.ensures.value ∙ ap (λ (i : PairLists). i.by_symbol)
    c.disjoint_index.view_is in
    let start = c.count_before-end.ensures in
    let parted = parted_if_equal _ _ _ c.args.symbol pairs c.number.ensures c.args.at _
    start.result_le_length start.earlier_are_before start.later_are_not_before in
    all_are_added c.args.blocks.now _ c.requires.well_formed.rising c.args.symbol c.args.at _ parted
    _ _ _ c.loop-by_symbol.invariant.1 (λ end_gt_0.
    rw (pairs, c.number-in-loop-by_symbol.ensures) at
    (c.last_has_symbol.ensures.differs_if_false c.loop-by_symbol-test.false end_gt_0))
