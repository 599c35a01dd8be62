use Rattle.mm_spec.proofs.OpenedLaw.{counted_length}
use Rattle.std.proofs.Common.{rules, ◌≢◌, ◌∙◌, sym, arith}
use Rattle.std.proofs.lemmas.Bool.{ne_eqb}
use Rattle.mm_database.proofs.TogetherLaw.{found_is_together}
use Rattle.mm_database.proofs.OpenAsAxiomsLaw.{together_counted}
use Rattle.mm_database.proofs.database.Database.disjoint_at.Goals as goal

pub are_in_one-requires : goal.are_in_one-requires
are_in_one-requires g c = search (rules, arith)

pub returns-else-are_together_near : goal.returns-else-are_together_near
returns-else-are_together_near g c =
    let s = c.self.inside.reading.statements in
    let k = c.args.statement in
    let x = c.args.x in
    let y = c.args.y in
    let x_ne_y : x ≢ y =
    λ x_is_y. c.if-number.true (c.number.ensures ∙ x_is_y ∙ sym c.number-2.ensures) in
    let blocks = c.blocks-else-are_together_near.ensures in
    let index_is = c.self.invariant.frame_tables_are.disjoint_index in
    let found = c.are_in_one.ensures in
    let k_le_length =
    rw (← c.self.view_is, counted_length c.self.inside.with_open s.list) at c.requires in
    rw (← c.self.view_is, ne_eqb x y x_ne_y, together_counted c.self.inside.with_open s.list k x y)
    (found_is_together s.list s.blocks blocks.are_blocks k k_le_length _ index_is.rows_are _
    index_is.members_are c.are_in_one.result x y x_ne_y
    (rw (← blocks.blocks_are) found.narrow_is_found)
    (rw (← blocks.blocks_are) found.wide_if_true) (rw (← blocks.blocks_are) found.none_if_false))
