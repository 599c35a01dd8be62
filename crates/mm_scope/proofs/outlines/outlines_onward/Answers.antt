use Rattle.std.proofs.Common.{arith}
use Rattle.mm_scope.specs.declared.outlines.Rest.TheVariants.{Stopped, Ended}
use Rattle.mm_scope.proofs.ReadLaw.{depth_after_le}
use Rattle.mm_scope.proofs.StretchesLaw.{depth_le_index, found_next, found_to_rest}
use Rattle.mm_scope.proofs.outlines.outlines_onward.Goals as goal

pub statements-init : goal.statements-init
statements-init g c =
    let before = c.requires.are_before in
    let b = c.args.before in
    record {
      depth_le_index =
          depth_le_index c.args.text.now c.args.tokens.now 0 0 b.outlines.items b.depth
          b.token_index before.are_found (omega arith);
      index_le_count = before.index_le_count;
      are_found = before.are_found;
    }

pub statements-preserved : goal.statements-preserved
statements-preserved g c =
    let text = c.args.text.now in
    let ws = c.args.tokens.now in
    let outline = c.in-Whole.outline in
    let whole = c.in-Whole.ensures.1 in
    let found = c.statements.outlines.items in
    let depth = c.statements.depth in
    let index = c.statements.token_index in
    record {
      depth_le_index = rw c.depth_after-depth.ensures
          (depth_after_le outline.kind depth index outline.end c.statements.invariant.depth_le_index
          whole.from_le_end);
      index_le_count = omega (arith, whole.end_lt_count);
      are_found =
          rw (c.in_ok-push-in-Whole.ensures.items, c.depth_after-depth.ensures)
          (found_next text ws 0 0 found depth index c.statements.invariant.are_found outline
          c.in-Whole.ensures);
    }

pub returns-in-Stopped : goal.returns-in-Stopped
returns-in-Stopped g c =
    found_to_rest c.args.text.now c.args.tokens.now 0 0 c.statements.outlines.items
    c.statements.depth c.statements.token_index c.statements.invariant.are_found
    (Stopped c.in-Stopped.fault) c.in-Stopped.ensures

pub returns-in-Ended : goal.returns-in-Ended
returns-in-Ended g c =
    found_to_rest c.args.text.now c.args.tokens.now 0 0 c.statements.outlines.items
    c.statements.depth c.statements.token_index c.statements.invariant.are_found
    (Ended c.in-Ended.part) c.in-Ended.ensures
