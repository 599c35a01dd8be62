use Rattle.std.proofs.Common.{◌∙◌, ◌++◌, ◌∷◌, [], ap, ap₂, sym, take_all, map, arith}
use Rattle.std.proofs.lemmas.List.{map_more}
use Rattle.mm_frame.proofs.DisjointRowsLaw.{rows_of_all}
use Rattle.mm_frame.proofs.disjoint_rows.disjoint_rows.Goals as goal

pub loop-row-preserved : goal.loop-row-preserved
loop-row-preserved g c =
    let rows = c.deref-row-items.result.now in
    c.in_ok-push.ensures.list_is_added
    ∙ ap₂ (λ lists row. lists ++ row ∷ []) c.loop-row.invariant
    (c.deref.ensures.value ∙ ap (λ v. v.items) c.row-item.is)
    ∙ sym (map_more (λ v. v.items) rows c.loop-row.row-index _ c.loop-row-test.true)

pub returns : goal.returns
returns g c =
    let items = c.deref-row-items.ensures.value in
    rows_of_all c.args.statements.now.list c.args.statements.now.blocks c.in_ok-rows.rows.items
    (λ x j has_symbol. let x_lt = c.in_ok-lists.ensures.all_have_lists x j has_symbol in
    let count = c.in_ok-rows.ensures.count_stays in omega (arith, x_lt, count))
    c.in_ok-rows.ensures.are_rows c.loop-row.joined
    (c.loop-row.invariant
    ∙ ap (map (λ v. v.items))
    (take_all c.loop-row.row-index c.deref-row-items.result.now c.loop-row-test.false ∙ items))
