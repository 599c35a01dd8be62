use Rattle.std.proofs.Common.{◌∙◌, arith}
use Rattle.mm_database.specs.Names.{find}
use Rattle.mm_scope.proofs.AddLaw.{knows_after_statement, on_ok_both}
use Rattle.mm_scope.proofs.scope.Scope.add.Goals as goal

pub push-requires-clause-blocks_lt_2_32 : goal.push-requires-clause-blocks_lt_2_32
push-requires-clause-blocks_lt_2_32 g c =
    let blocks_le_length = c.requires.is_scope_after.1.blocks.ends_le_statements in
    let length_lt_2_31 = c.requires.is_scope_after.2 in
    omega (arith, blocks_le_length, length_lt_2_31)

pub returns-clause-is_next_scope : goal.returns-clause-is_next_scope
returns-clause-is_next_scope g c =
    on_ok_both c.add_names.result c.add_names.ensures.symbols_are_added
    c.add_names.ensures.label_is_added
    (λ symbols labels db is_scope_after may_follow.
    let o = c.args.outline in
    let new_names = c.add_names.new.self.names in
    let block_count = is_scope_after.blocks.count in
    let block_count_before = c.requires.is_scope_after.1.blocks.count in
    let length_lt_2_31 = c.requires.is_scope_after.2 in
    knows_after_statement c.args.text.now c.args.tokens.now is_scope_after
    (omega (arith, block_count, block_count_before, length_lt_2_31)) o.kind o.keyword o.middle o.end
    may_follow.0 may_follow.1 (c.add_names.ensures.blocks_stay ∙ c.in_ok-push.ensures)
    c.len-statement.ensures (find new_names.symbols) symbols (find new_names.labels) labels)
