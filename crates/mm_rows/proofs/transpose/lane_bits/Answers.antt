use Rattle.std.proofs.Common.{◌≡◌, ◌<◌, ◌*◌, ◌^◌, ◌%◌, ◌∙◌, ap, arith, eqb, replicate, bit_and, w8}
use Rattle.std.proofs.lemmas.Simd.{bitmask_splat, length-zip2, length-replicate}
use Rattle.std.proofs.Math.Pow.{pow-lt}
use Rattle.std.specs.Int.{bit_at}
use Rattle.mm_rows.proofs.BandLaw.{lane_bit}
use Rattle.mm_rows.proofs.transpose.lane_bits.Goals as goal
use lib.Lanes.{zip2}

pub returns : goal.returns
returns c = λ k k_lt_64.
    let v = c.args.bytes in
    let m = 1 * 2 ^ c.args.b % 2 ^ 8 in
    let power_lt_256 : 2 ^ c.args.b < 2 ^ 8 = pow-lt c.requires in
    let mask_is_power : m ≡ 2 ^ c.args.b = omega (arith, power_lt_256) in
    let masks_length = length-replicate 64 m in
    let masked_length =
    length-zip2 bit_and v (replicate 64 m) (omega (arith, masks_length, c.fits-bytes.0)) in
    ap (λ x. bit_at x k)
    (bitmask_splat w8 eqb (zip2 bit_and v (replicate 64 m)) 64 m
    (omega (arith, masked_length, c.fits-bytes.0)) (omega arith))
    ∙ lane_bit v 64 m c.args.b k c.fits-bytes.0 mask_is_power k_lt_64
