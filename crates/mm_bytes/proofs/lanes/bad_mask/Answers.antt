use Rattle.std.proofs.Common.{arith, ℕ}
use Rattle.std.proofs.lemmas.Simd.{zip2_splat, zip2_splat_left}
use Rattle.mm_spec.specs.Bytes.{is_white, is_printable}
use Rattle.mm_bytes.specs.Masks.{is_bad}
use Rattle.mm_bytes.proofs.MaskLaw.{equal_lane, less_lane, lanes_or, lanes_xor, mask_of_lanes}
use Rattle.mm_bytes.proofs.lanes.bad_mask.Goals as goal

pub returns : goal.returns
unfolding is_white is_printable is_bad
returns c =
    let lanes = c.args.lanes in
    let is_byte = λ (k : ℕ). zip2_splat equal_lane lanes 64 k c.fits-lanes.0 in
    let white =
    lanes_or _ _ lanes
    (lanes_or _ _ lanes
    (lanes_or _ _ lanes (lanes_or _ _ lanes (is_byte 32) (is_byte 10)) (is_byte 9))
    (is_byte 12))
    (is_byte 13) in
    let unprintable =
    lanes_or _ _ lanes (zip2_splat less_lane lanes 64 33 c.fits-lanes.0)
    (zip2_splat_left less_lane 126 64 lanes c.fits-lanes.0) in
    mask_of_lanes _ is_bad lanes _ (omega arith) c.fits-lanes.1
    (lanes_xor _ _ lanes unprintable white) tt
