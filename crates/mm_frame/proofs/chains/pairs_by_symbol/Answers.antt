use Rattle.std.proofs.Common.{◌<◌, ◌∙◌, sym, length, get_or, arith, nat_lt, false}
use Rattle.std.proofs.lemmas.Bool.{and_parts, ltb-true}
use Rattle.mm_database.specs.DisjointIndex.{has_symbol_by_width}
use Rattle.mm_frame.proofs.ChainsLaw.{pairs_with_symbol}
use Rattle.mm_frame.proofs.chains.pairs_by_symbol.Goals as goal

pub loop-symbol-preserved : goal.loop-symbol-preserved
loop-symbol-preserved g c =
    let x = c.loop-symbol.symbol in
    let heads = c.in_ok-chains.chains.heads.items in
    let links = c.in_ok-chains.chains.links.items in
    let symbol_lt_end = c.loop-symbol-test.true in
    let end_is_count = c.loop-symbol.auto.symbol-end in
    let x_lt_length_heads : x < length heads =
    omega (
      arith,
      symbol_lt_end,
      end_is_count,
      c.symbol_count-symbol-end.ensures.count_is,
      c.in_ok-chains.ensures.head_count_is,
    ) in
    let chain = c.in_ok-chains.ensures.are_chains x x_lt_length_heads in
    pairs_with_symbol c.args.statements.now.list false x
    (get_or heads x 0) links c.loop-symbol.by_symbol.items
    c.add_chain.new.by_symbol.items chain c.loop-symbol.invariant
    (c.in_ok-add_chain.ensures chain.statements chain.chain)

pub returns-clause-symbols_have_numbers : goal.returns-clause-symbols_have_numbers
returns-clause-symbols_have_numbers g c = λ x j is_there.
    let end = c.loop-symbol.symbol in
    let x_lt_end = ltb-true x end (and_parts (nat_lt x end)
    (has_symbol_by_width c.args.statements.now.list false x j)
    (sym (c.loop-symbol.invariant.members_are x j) ∙ is_there)).0 in
    let end_le_count = c.loop-symbol.auto.symbol-end in
    let count_is = c.symbol_count-symbol-end.ensures.count_is in
    omega (arith, x_lt_end, end_le_count, count_is)
