use Rattle.std.proofs.Common.{◌≡◌, ◌<◌, ◌+◌, length, get_or, sym, arith, ◌∙◌}
use Rattle.std.proofs.lemmas.List.{get_or_default}
use Rattle.mm_frame.proofs.ChainsLaw.{chains_with_known_statement, chains_with_statement}
use Rattle.mm_frame.proofs.chains.add_link.Goals as goal

pub returns-in_ok-push-clause-adds_in_front : goal.returns-in_ok-push-clause-adds_in_front
returns-in_ok-push-clause-adds_in_front g c = λ has are_chains.
    let heads = c.args.chains.now.heads.items in
    let links = c.args.chains.now.links.items in
    let x = c.number-index.result in
    let x_lt_length_heads : x < length heads = omega (
      arith,
      c.number-index.ensures,
      c.requires.symbol_lt_count,
    ) in
    let head_is_at_x : c.index-first_link.result.now ≡ get_or heads x 0 =
    c.index-first_link.ensures ∙ get_or_default heads x c.index-first_link.result.now 0
    x_lt_length_heads in
    let len_is_next : c.len.result ≡ length links + 1 =
    omega (arith, c.len.ensures, c.in_ok-push.ensures.len) in
    rw (c.in_ok-push.ensures.items, len_is_next, head_is_at_x)
    (chains_with_statement has heads links c.args.symbol x c.args.statement
    (sym c.number-index.ensures)
    x_lt_length_heads
    (rw (← head_is_at_x, ← c.deref.ensures.value)
    (c.begins_with.ensures.differs_if_false c.if-not-begins_with.true)) are_chains)

pub returns-else-not-begins_with-clause-adds_in_front :
    goal.returns-else-not-begins_with-clause-adds_in_front
returns-else-not-begins_with-clause-adds_in_front g c = λ has are_chains.
    let heads = c.args.chains.now.heads.items in
    let links = c.args.chains.now.links.items in
    let x = c.number-index.result in
    let x_lt_length_heads : x < length heads = omega (
      arith,
      c.number-index.ensures,
      c.requires.symbol_lt_count,
    ) in
    let head_is_at_x : c.index-first_link.result.now ≡ get_or heads x 0 =
    c.index-first_link.ensures ∙ get_or_default heads x c.index-first_link.result.now 0
    x_lt_length_heads in
    let statement_is_first = c.begins_with.ensures.begins_if_true c.if-not-begins_with.false in
    chains_with_known_statement has heads links c.args.symbol x c.args.statement
    (sym c.number-index.ensures)
    x_lt_length_heads
    (rw (← head_is_at_x) statement_is_first.0)
    (rw (← head_is_at_x, ← c.deref.ensures.value) statement_is_first.1) are_chains
