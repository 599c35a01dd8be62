use Rattle.std.proofs.Common.{arith}
use Rattle.mm_rows.proofs.BandLaw.{all_bands_are_transposed}
use Rattle.mm_rows.proofs.transpose.transpose_bands.Goals as goal

pub returns : goal.returns
returns c =
    let end_is = c.div_ceil-w-end.ensures in
    let end_le_w = c.loop-w-test.false in
    all_bands_are_transposed c.args.rows c.args.columns c.args.bits.now c.loop-w.transposed
    c.loop-w.w
    (omega (arith, end_is, end_le_w)) c.loop-w.invariant.written
