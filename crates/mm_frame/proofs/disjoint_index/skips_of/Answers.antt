use Rattle.std.proofs.Common.{rules, ◌-◌, length, ap, sym, ◌∙◌, arith}
use Rattle.std.proofs.lemmas.Grind.{common_steps}
use Rattle.mm_frame.proofs.SkipsLaw.{covers_itself, covers_before, skip_covers, skips_with_next}
use Rattle.mm_frame.proofs.SkipsLaw.{so_far_are_skips}
use Rattle.mm_frame.proofs.disjoint_index.skips_of.Goals as goal

pub loop-index-init : goal.loop-index-init
loop-index-init g c = (ap length c.new-skips.ensures.items, λ q q_lt_0. absurd (omega arith))

pub loop-covered_from-init : goal.loop-covered_from-init
loop-covered_from-init g c = grind (arith, common_steps, covers_itself)

pub loop-covered_from-smaller : goal.loop-covered_from-smaller
loop-covered_from-smaller g c =
    let index = c.loop-index.index in
    let covered_from = c.loop-covered_from.covered_from in
    let covered_from_le_index = c.loop-covered_from.invariant.0 in
    let covered_from_gt_0 = c.loop-covered_from-test.true in
    let skip_covers_index =
    skip_covers c.args.blocks.now c.args.by_symbol.now index c.loop-index.skips.items
    c.loop-index.invariant
    (covered_from - 1)
    c.index-covered_from.result.now _ (omega (arith, covered_from_le_index, covered_from_gt_0))
    c.index-covered_from.ensures in
    let skip_le_previous = skip_covers_index.0 in
    omega (arith, skip_le_previous, covered_from_gt_0)

pub loop-covered_from-preserved : goal.loop-covered_from-preserved
loop-covered_from-preserved g c =
    let index = c.loop-index.index in
    let covered_from = c.loop-covered_from.covered_from in
    let invariant = c.loop-covered_from.invariant in
    let covered_from_le_index = invariant.0 in
    let covered_from_gt_0 = c.loop-covered_from-test.true in
    covers_before c.args.blocks.now c.args.by_symbol.now covered_from index
    c.index-covered_from.result.now covered_from_gt_0 covered_from_le_index invariant.1
    (sym c.is_covered.ensures ∙ c.if-is_covered.true)
    (skip_covers c.args.blocks.now c.args.by_symbol.now index c.loop-index.skips.items
    c.loop-index.invariant
    (covered_from - 1)
    c.index-covered_from.result.now _ (omega (arith, covered_from_le_index, covered_from_gt_0))
    c.index-covered_from.ensures)

pub loop-index-preserved : goal.loop-index-preserved
loop-index-preserved g c = search (rules, arith, skips_with_next)

pub returns : goal.returns
returns g c = search (rules, arith, so_far_are_skips)

pub is_covered-requires-clause-pair_has_block : goal.is_covered-requires-clause-pair_has_block
is_covered-requires-clause-pair_has_block g c = search (rules, arith)

pub is_covered-requires-clause-covering_has_block :
    goal.is_covered-requires-clause-covering_has_block
is_covered-requires-clause-covering_has_block g c = search (rules, arith)

pub index-covered_from-requires : goal.index-covered_from-requires
index-covered_from-requires g c = search (rules, arith)
