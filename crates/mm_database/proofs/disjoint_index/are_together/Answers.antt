use Rattle.std.proofs.lemmas.Bool.Decides.{nat_tests}
use Rattle.std.proofs.Common.{sym, ap, ◌∙◌, arith, inl, inr}
use Rattle.std.proofs.lemmas.Bool.{lt-ltb}
use Rattle.mm_database.specs.DisjointIndex.{PairLists}
use Rattle.mm_database.proofs.DisjointIndexLaw.{none_before_x_end, none_before_y_end, none_at_end}
use Rattle.mm_database.proofs.DisjointIndexLaw.{none_before_end, is_before, has_pair_at_index}
use Rattle.mm_database.proofs.DisjointIndexLaw.{parted_if_equal}
use Rattle.mm_database.proofs.disjoint_index.are_together.Goals as goal
use Rattle.mm_database.proofs.disjoint_index.are_together.Goals.{else-x_statement-y_statement-via-then-x_statement-y_statement+else-is_block_open}
use Rattle.mm_database.proofs.disjoint_index.are_together.Goals.{else-x_statement-y_statement-via-else-x_statement-y_statement}

pub returns-then-is_block_open-clause-are_together_if_true :
    goal.returns-then-is_block_open-clause-are_together_if_true
returns-then-is_block_open-clause-are_together_if_true g c =
    grind (
      arith,
      nat_tests,
      parted_if_equal,
      has_pair_at_index,
      lt-ltb,
      is_before,
      c.as_slice-by_symbol.ensures.value,
      c.disjoint_index.view_is,
      c.count_before-x_end.ensures,
      c.number.ensures,
      c.last_has_symbol.ensures.has_if_true,
      c.loop-by_symbol-test.true,
      c.last_has_symbol-in-loop-by_symbol.ensures.has_if_true,
      c.if-last_has_symbol.true,
      c.number-in-loop-by_symbol.ensures,
      c.number-in-loop-by_symbol-2.ensures,
      c.if-x_statement-y_statement.true,
      c.loop-by_symbol.invariant.x_end_falls,
      c.loop-by_symbol.invariant.x_end_within,
      c.loop-by_symbol.invariant.y_end_within,
    )

pub loop-by_symbol-preserved-then-x_statement-y_statement-2 :
    goal.loop-by_symbol-preserved-then-x_statement-y_statement-2
loop-by_symbol-preserved-then-x_statement-y_statement-2 g c =
    let pairs = c.as_slice-by_symbol.ensures.value ∙ ap (λ (i : PairLists). i.by_symbol)
    c.disjoint_index.view_is in
    let x_statement = c.last_has_symbol.ensures.has_if_true c.loop-by_symbol-test.true in
    let y_statement = c.last_has_symbol-in-loop-by_symbol.ensures.has_if_true
    c.if-last_has_symbol.true in
    let next_lt_y_end = c.skip_last-y_end.ensures.result_lt_end in
    let invariant = c.loop-by_symbol.invariant in
    record {
      x_end_falls = invariant.x_end_falls;
      y_end_falls = omega (arith, next_lt_y_end, invariant.y_end_falls);
      x_end_within = invariant.x_end_within;
      y_end_within = omega (arith, next_lt_y_end, invariant.y_end_within);
      none_in_common = none_before_y_end c.args.blocks.now _ c.requires.well_formed.rising c.args.x
          c.args.y c.args.at _ _ _ invariant.none_in_common x_statement.0 invariant.x_end_within
          y_statement.0 invariant.y_end_within
          (rw (pairs, c.number-in-loop-by_symbol.ensures) at x_statement.1)
          (rw pairs at c.if-x_statement-y_statement-2.true)
          c.skip_last-y_end.ensures.skipped_are_closed;
    }

pub loop-by_symbol-preserved : goal.loop-by_symbol-preserved
loop-by_symbol-preserved g c =
    let pairs = c.as_slice-by_symbol.ensures.value ∙ ap (λ (i : PairLists). i.by_symbol)
    c.disjoint_index.view_is in
    let x_statement = c.last_has_symbol.ensures.has_if_true c.loop-by_symbol-test.true in
    let y_statement = c.last_has_symbol-in-loop-by_symbol.ensures.has_if_true
    c.if-last_has_symbol.true in
    let next_lt_x_end = c.skip_last-x_end.ensures.result_lt_end in
    let invariant = c.loop-by_symbol.invariant in
    record {
      x_end_falls = omega (arith, next_lt_x_end, invariant.x_end_falls);
      y_end_falls = invariant.y_end_falls;
      x_end_within = omega (arith, next_lt_x_end, invariant.x_end_within);
      y_end_within = invariant.y_end_within;
      none_in_common = none_before_x_end c.args.blocks.now _ c.requires.well_formed.rising c.args.x
          c.args.y c.args.at _ _ _ invariant.none_in_common x_statement.0 invariant.x_end_within
          y_statement.0 invariant.y_end_within
          (rw (pairs, c.number-in-loop-by_symbol-2.ensures) at y_statement.1)
          (elim c.else-x_statement-y_statement.branch [
            | else-x_statement-y_statement-via-then-x_statement-y_statement+else-is_block_open w ↦
                inr (rw pairs at (sym w.is_block_open.ensures ∙ w.if-is_block_open.false))
            | else-x_statement-y_statement-via-else-x_statement-y_statement w ↦
                (let statements_differ = rw pairs at w.if-x_statement-y_statement.false in
                let y_le_x = rw pairs at c.if-x_statement-y_statement-2.false in
                inl (omega (arith, statements_differ, y_le_x)))
          ]) c.skip_last-x_end.ensures.skipped_are_closed;
    }

pub returns-else-last_has_symbol-clause-none_if_false :
    goal.returns-else-last_has_symbol-clause-none_if_false
returns-else-last_has_symbol-clause-none_if_false g c =
    let pairs = c.as_slice-by_symbol.ensures.value ∙ ap (λ (i : PairLists). i.by_symbol)
    c.disjoint_index.view_is in
    let start = c.count_before-y_end.ensures in
    let parted = parted_if_equal _ _ _ c.args.y pairs c.number-2.ensures c.args.at _
    start.result_le_length start.earlier_are_before start.later_are_not_before in
    let rising = c.requires.well_formed.rising in
    λ result_is_false. none_at_end c.args.blocks.now _ rising c.args.x c.args.y c.args.at _ _
    c.loop-by_symbol.invariant.none_in_common (inr (none_before_end c.args.blocks.now _ rising
    c.args.y c.args.at _ parted _ c.loop-by_symbol.invariant.y_end_falls (λ y_end_gt_0.
    rw (pairs, c.number-in-loop-by_symbol-2.ensures) at
    (c.last_has_symbol-in-loop-by_symbol.ensures.differs_if_false c.if-last_has_symbol.false
    y_end_gt_0))))

pub returns-after-loop-by_symbol-clause-none_if_false :
    goal.returns-after-loop-by_symbol-clause-none_if_false
returns-after-loop-by_symbol-clause-none_if_false g c =
    let pairs = c.as_slice-by_symbol.ensures.value ∙ ap (λ (i : PairLists). i.by_symbol)
    c.disjoint_index.view_is in
    let start = c.count_before-x_end.ensures in
    let parted = parted_if_equal _ _ _ c.args.x pairs c.number.ensures c.args.at _
    start.result_le_length start.earlier_are_before start.later_are_not_before in
    let rising = c.requires.well_formed.rising in
    λ result_is_false. none_at_end c.args.blocks.now _ rising c.args.x c.args.y c.args.at _ _
    c.loop-by_symbol.invariant.none_in_common (inl (none_before_end c.args.blocks.now _ rising
    c.args.x c.args.at _ parted _ c.loop-by_symbol.invariant.x_end_falls (λ x_end_gt_0.
    rw (pairs, c.number-in-loop-by_symbol.ensures) at
    (c.last_has_symbol.ensures.differs_if_false c.loop-by_symbol-test.false x_end_gt_0))))
