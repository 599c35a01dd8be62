use Rattle.std.proofs.Common.{arith, ℕ}
use Rattle.std.proofs.lemmas.Simd.{zip2_splat}
use Rattle.mm_spec.specs.Bytes.{is_white}
use Rattle.mm_bytes.proofs.MaskLaw.{equal_lane, lanes_or, mask_of_lanes}
use Rattle.mm_bytes.proofs.lanes.white_mask.Goals as goal

pub returns : goal.returns
unfolding is_white
returns c =
    let lanes = c.args.lanes in
    let is_byte = λ (k : ℕ). zip2_splat equal_lane lanes 64 k c.fits-lanes.0 in
    mask_of_lanes _ is_white lanes _ (omega arith) c.fits-lanes.1
    (lanes_or _ _ lanes
    (lanes_or _ _ lanes
    (lanes_or _ _ lanes (lanes_or _ _ lanes (is_byte 32) (is_byte 10)) (is_byte 9)) (is_byte 12))
    (is_byte 13)) tt
