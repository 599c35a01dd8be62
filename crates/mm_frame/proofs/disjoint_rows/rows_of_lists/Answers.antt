use Rattle.std.proofs.Common.{◌≡◌, ◌∙◌, ◌&&◌, nat_lt, length, subst, arith, sym, ap, rules}
use Rattle.mm_database.specs.DisjointIndex.{HaveBlocks, has_narrow_pair}
use Rattle.mm_frame.proofs.DisjointRowsLaw.{all_pairs_are_below, below_are_lower, list_has_blocks}
use Rattle.mm_frame.proofs.DisjointRowsLaw.{list_has_rows, rows_of_equal_tests, rows_with_list}
use Rattle.mm_frame.proofs.DisjointRowsLaw.{written_whole}
use Rattle.mm_frame.proofs.LowerListsLaw.{list_at}
use Rattle.mm_frame.proofs.disjoint_rows.rows_of_lists.Goals as goal

pub add_list_to_rows-requires-clause-all_have_rows :
    goal.add_list_to_rows-requires-clause-all_have_rows
add_list_to_rows-requires-clause-all_have_rows g c =
    let db = c.args.statements.now.list in
    let list = list_at _ _ c.loop-high.high c.args.lists.items c.index.result.now c.deref.result.now
    c.requires.are_lists (omega (arith, c.loop-high-test.true, c.len-high-end.ensures))
    c.index.ensures c.deref.ensures.value in
    list_has_rows db c.loop-high.high c.deref.result.now list.members_are
    (length c.deref_mut.result.now)
    (λ x j has_symbol. let x_lt = c.requires.all_have_lists x j has_symbol in
    omega (
      arith,
      x_lt,
      c.loop-high.invariant.count,
      ap length c.deref_mut.ensures.value,
    ))

pub add_list_to_rows-requires-clause-statements_rise :
    goal.add_list_to_rows-requires-clause-statements_rise
add_list_to_rows-requires-clause-statements_rise g c =
    (list_at _ _ c.loop-high.high c.args.lists.items c.index.result.now c.deref.result.now
    c.requires.are_lists (omega (arith, c.loop-high-test.true, c.len-high-end.ensures))
    c.index.ensures c.deref.ensures.value).statements_rise

pub add_list_to_rows-requires-clause-list_has_blocks :
    goal.add_list_to_rows-requires-clause-list_has_blocks
add_list_to_rows-requires-clause-list_has_blocks g c =
    let list = list_at _ _ c.loop-high.high c.args.lists.items c.index.result.now c.deref.result.now
    c.requires.are_lists (omega (arith, c.loop-high-test.true, c.len-high-end.ensures))
    c.index.ensures c.deref.ensures.value in
    subst (λ b. HaveBlocks b c.deref.result.now) (sym c.blocks-in-loop-high.ensures.blocks_are)
    (list_has_blocks c.args.statements.now.list c.loop-high.high c.deref.result.now
    list.members_are c.args.statements.now.blocks
    c.blocks-in-loop-high.ensures.are_blocks)

pub loop-high-preserved : goal.loop-high-preserved
loop-high-preserved g c =
    let db = c.args.statements.now.list in
    let b = c.args.statements.now.blocks in
    let high = c.loop-high.high in
    let old = c.loop-high.rows.items in
    let new = c.add_list_to_rows.new.rows in
    let known = c.blocks-in-loop-high.ensures.blocks_are in
    let value = c.deref_mut.ensures.value in
    let count : length new ≡ length old =
    c.in_ok-add_list_to_rows.ensures.row_count_stays ∙ ap length value in
    let written = written_whole old new c.loop-high.rows.len count (search rules) in
    let list = list_at _ _ c.loop-high.high c.args.lists.items c.index.result.now c.deref.result.now
    c.requires.are_lists (omega (arith, c.loop-high-test.true, c.len-high-end.ensures))
    c.index.ensures c.deref.ensures.value in
    rw written (record {
      count = count ∙ c.loop-high.invariant.count;
      are_known = rw known at c.in_ok-add_list_to_rows.ensures.are_known;
      are_rows =
          rows_of_equal_tests b (0, 0) _ _ new
          (rows_with_list db high c.deref.result.now list.members_are)
          (rw (known, value) at c.in_ok-add_list_to_rows.ensures.adds_list
          (λ x y j. nat_lt y high && has_narrow_pair db x y j)
          (below_are_lower db high c.deref.result.now list.members_are) c.loop-high.invariant.are_rows);
    })

pub returns-clause-are_rows : goal.returns-clause-are_rows
returns-clause-are_rows g c =
    let db = c.args.statements.now.list in
    let n = length c.args.lists.items in
    let at_end : c.loop-high.high ≡ n = omega (
      arith,
      c.loop-high-test.false,
      c.loop-high.auto.high-end,
      c.len-high-end.ensures,
    ) in
    rows_of_equal_tests c.args.statements.now.blocks (0, 0) _ _ c.loop-high.rows.items
    (λ x y j. ap (λ m. nat_lt y m && has_narrow_pair db x y j) at_end
    ∙ all_pairs_are_below db n c.requires.all_have_lists x y j)
    c.loop-high.invariant.are_rows
