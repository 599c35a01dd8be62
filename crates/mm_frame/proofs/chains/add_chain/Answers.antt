use Rattle.std.proofs.Common.{◌≡◌, ◌-◌, ◌<◌, get_or, length, arith, ◌∙◌}
use Rattle.std.proofs.lemmas.List.{get_or_default}
use Rattle.mm_frame.proofs.ChainsLaw.{rest_after_link, no_rest_is_all_added}
use Rattle.mm_frame.proofs.chains.add_chain.Goals as goal

pub loop-link-preserved : goal.loop-link-preserved
loop-link-preserved g c =
    let links = c.args.chains.now.links.items in
    let n = c.loop-link.link in
    let number_gt_0 = c.loop-link-test.true in
    let index_lt_length : n - 1 < length links = omega (
      arith,
      c.loop-link.invariant.link_le_length,
      number_gt_0,
    ) in
    let link_is_at_index : c.index.result.now ≡ get_or links (n - 1) (0, 0) =
    c.index.ensures ∙ get_or_default links (n - 1) c.index.result.now (0, 0)
    index_lt_length in
    record {
      link_le_length = rw link_is_at_index (let next_le_index =
          c.requires.are_linked.next_le_index (n - 1) index_lt_length in
          omega (arith, next_le_index, index_lt_length));
      rest_is_chain = λ statements is_chain. rw (c.in_ok-push.ensures.items, link_is_at_index)
          (rest_after_link links c.args.symbol c.args.by_symbol.now.items
          c.loop-link.by_symbol.items statements
          n number_gt_0 (c.loop-link.invariant.rest_is_chain statements is_chain));
    }

pub returns : goal.returns
returns g c = λ statements is_chain.
    no_rest_is_all_added c.args.chains.now.links.items c.args.symbol c.args.by_symbol.now.items
    c.loop-link.by_symbol.items statements c.loop-link.link
    (let number_le_0 = c.loop-link-test.false in omega (arith, number_le_0))
    (c.loop-link.invariant.rest_is_chain statements is_chain)
