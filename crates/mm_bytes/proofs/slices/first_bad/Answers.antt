use Rattle.std.proofs.Common.{◌∙◌, sym, arith}
use Rattle.mm_bytes.specs.Masks.{is_bad}
use Rattle.mm_bytes.proofs.CountLaw.{position_none, position_some, position_block, none_block}
use Rattle.mm_bytes.proofs.slices.first_bad.Goals as goal

pub returns-then-bad-ne0 : goal.returns-then-bad-ne0
returns-then-bad-ne0 c =
    position_block is_bad c.args.bytes.now c.loop-at.at c.bad_mask-bad.result
    (omega arith) c.loop-at.invariant.good c.bad_mask-bad.ensures (omega arith)
    (omega (arith, c.if-bad-ne0.true))

pub loop-at-preserved : goal.loop-at-preserved
loop-at-preserved c = record {
  within = omega arith;
  good =
      none_block is_bad c.args.bytes.now c.loop-at.at (omega arith) c.loop-at.invariant.good
      (sym c.bad_mask-bad.ensures ∙ c.if-bad-ne0.false);
}

pub returns-then-is_bad : goal.returns-then-is_bad
returns-then-is_bad c =
    position_some is_bad c.args.bytes.now c.loop-at-2.at (omega arith) c.loop-at-2.invariant.good
    (sym c.is_bad.ensures ∙ c.if-is_bad.true)

pub returns : goal.returns
returns c =
    position_none is_bad c.args.bytes.now (λ k lt. c.loop-at-2.invariant.good k (omega arith))
