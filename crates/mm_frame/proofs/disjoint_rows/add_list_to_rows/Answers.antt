use Rattle.std.proofs.Common.{◌∙◌, ◌<◌, List, ℕ, length, get_or, subst, take_all, arith}
use Rattle.std.proofs.lemmas.List.{length-set}
use Rattle.mm_frame.specs.Rows.{AddsListToRows}
use Rattle.mm_frame.proofs.DisjointRowsLaw.{known_with_row, next_is_last, rows_of_equal_tests}
use Rattle.mm_frame.proofs.DisjointRowsLaw.{rows_with_next, rows_with_row}
use Rattle.mm_frame.proofs.disjoint_rows.add_list_to_rows.Goals as goal

pub loop-pair-preserved : goal.loop-pair-preserved
loop-pair-preserved g c =
    let b = c.args.blocks.now in
    let high = c.args.high in
    let list = c.args.list.now in
    let i = c.loop-pair.pair-index in
    let p = get_or list i (0, 0) in
    let rows = c.loop-pair.rows in
    let row = c.add_to_row.new.row in
    let has_row = c.requires.all_have_rows i c.loop-pair-test.true in
    let p_lt : p.0 < length rows = omega (arith, has_row, c.loop-pair.invariant.count) in
    record {
      count = length-set rows p.0 row ∙ c.loop-pair.invariant.count;
      are_known =
          known_with_row b (high, p.1) rows p.0 row p_lt c.loop-pair.invariant.are_known
          c.in_ok-add_to_row.ensures.row_has_blocks;
      adds = λ passes are_lower are_rows.
          rows_of_equal_tests b (high, p.1) _ _ _
          (rows_with_next passes high list i c.loop-pair-test.true)
          (rows_with_row b (high, p.1) rows p.0 row p_lt _
          (next_is_last passes high list i c.loop-pair-test.true are_lower
          c.requires.statements_rise p.0)
          _ c.in_ok-add_to_row.ensures.adds_to_row
          (c.loop-pair.invariant.adds passes are_lower are_rows));
    }

pub returns-clause-adds_list : goal.returns-clause-adds_list
returns-clause-adds_list g c =
    subst
    (λ (ps : List (ℕ × ℕ)). AddsListToRows c.args.blocks.now c.args.high ps c.args.rows.now
    c.loop-pair.rows)
    (take_all c.loop-pair.pair-index c.args.list.now c.loop-pair-test.false)
    c.loop-pair.invariant.adds
