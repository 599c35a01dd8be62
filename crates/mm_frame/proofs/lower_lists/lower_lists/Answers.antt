use Rattle.std.proofs.Common.{◌≡◌, ◌∙◌, ◌&&◌, arith, ap, sym, nat_lt, length}
use Rattle.std.proofs.Common.{true, rules, ◌+◌}
use Rattle.mm_database.specs.DisjointIndex.{has_narrow_pair, has_symbol_by_width}
use Rattle.mm_frame.proofs.DisjointRowsLaw.{written_whole}
use Rattle.mm_frame.proofs.LowerListsLaw.{all_lt_of_members, all_pairs_are_before}
use Rattle.mm_frame.proofs.LowerListsLaw.{lists_of_equal_tests, pairs_with_statement}
use Rattle.mm_frame.proofs.LowerListsLaw.{pairs_without_statement}
use Rattle.mm_frame.proofs.lower_lists.lower_lists.Goals.{
  then-is_disjoint_by_width+in_ok-add_all_pairs,
  else-is_disjoint_by_width,
}
use Rattle.mm_frame.proofs.lower_lists.lower_lists.Goals as goal

pub add_all_pairs-requires : goal.add_all_pairs-requires
add_all_pairs-requires g c =
    let db = c.args.statements.now.list in
    let s = c.loop-statement.statement in
    let symbols_are = c.formula.ensures.formula in
    all_lt_of_members c.formula.result.now (length c.deref_mut.result.now)
    (λ x is_in. let has_symbol : has_symbol_by_width db true x s ≡ true =
    grind (arith, is_in, symbols_are, c.is_disjoint_by_width.ensures, c.if-is_disjoint_by_width.true)
    in
    let x_lt = c.loop-statement.invariant.all_have_lists x s has_symbol in
    omega (arith, x_lt, ap length c.deref_mut.ensures.value))

pub loop-statement-preserved : goal.loop-statement-preserved
loop-statement-preserved g c =
    let db = c.args.statements.now.list in
    let s = c.loop-statement.statement in
    elim c.if-is_disjoint_by_width.branch [
      | then-is_disjoint_by_width+in_ok-add_all_pairs w ↦
          let old = c.loop-statement.lists.items in
          let new = w.add_all_pairs.new.lists in
          let value = w.deref_mut.ensures.value in
          let count : length new ≡ length old =
          w.in_ok-add_all_pairs.ensures.list_count_stays ∙ ap length value in
          let written = written_whole old new c.loop-statement.lists.len count (search rules) in
          rw (w.lists-is, written) (record {
            all_have_lists = λ x j has_symbol.
                let x_lt = c.loop-statement.invariant.all_have_lists x j has_symbol in
                omega (arith, x_lt, count);
            few_lists = let few = c.loop-statement.invariant.few_lists in omega (arith, few, count);
            are_lists =
                lists_of_equal_tests _ _ s (s + 1) new (omega arith)
                (pairs_with_statement db s w.formula.result.now w.formula.ensures.formula
                (sym c.is_disjoint_by_width.ensures ∙ w.if-is_disjoint_by_width.true))
                (rw value at w.in_ok-add_all_pairs.ensures.adds_to_lists
                (λ y x j. nat_lt j s && has_narrow_pair db x y j)
                c.loop-statement.invariant.are_lists);
          })
      | else-is_disjoint_by_width w ↦ rw w.lists-is (record {
        all_have_lists = c.loop-statement.invariant.all_have_lists;
        few_lists = c.loop-statement.invariant.few_lists;
        are_lists =
            lists_of_equal_tests _ _ s (s + 1) _ (omega arith)
            (pairs_without_statement db s
            (sym c.is_disjoint_by_width.ensures ∙ w.if-is_disjoint_by_width.false))
            c.loop-statement.invariant.are_lists;
      })
    ]

pub returns-clause-are_lists : goal.returns-clause-are_lists
returns-clause-are_lists g c =
    let db = c.args.statements.now.list in
    let s = c.loop-statement.statement in
    let at_end : s ≡ length db = omega (
      arith,
      c.loop-statement-test.false,
      c.loop-statement.auto.statement-end,
      c.len-statement-end.ensures.len,
    ) in
    lists_of_equal_tests _ _ s (length db) c.loop-statement.lists.items (omega (arith, at_end))
    (λ y x j. ap (λ n. nat_lt j n && has_narrow_pair db x y j) at_end
    ∙ all_pairs_are_before db y x j)
    c.loop-statement.invariant.are_lists
