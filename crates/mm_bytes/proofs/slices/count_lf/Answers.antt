use Rattle.std.proofs.Common.{◌≡◌, ◌==◌, ◌≤◌, ℕ, ◌+◌, count_by, take, length, count_ones, ap, ◌∙◌}
use Rattle.std.proofs.Common.{arith}
use Rattle.std.proofs.lemmas.Simd.{ones-mask_l}
use Rattle.std.proofs.lemmas.List.Sums.{count_by-le-length}
use Rattle.std.proofs.lemmas.List.{length-take}
use lib.Lanes.{chunk}
use Rattle.mm_bytes.proofs.CountLaw.{count_by_chunk}
use Rattle.mm_bytes.proofs.slices.count_lf.Goals as goal
use Rattle.mm_bytes.proofs.slices.count_lf.Goals.{After-lf_mask}

-- the count after a block
count_after_block : (c : After-lf_mask)
    → c.loop-at.count + count_ones c.lf_mask.result
    ≡ count_by (λ b. b == 10) (take (c.loop-at.at + 64) c.args.bytes.now)
count_after_block c =
    let bytes = c.args.bytes.now in
    let block_count_is : count_ones c.lf_mask.result ≡ count_by (λ b. b == 10)
    (chunk c.loop-at.at 64 bytes) =
    ap count_ones c.lf_mask.ensures ∙ ones-mask_l (λ b. b == 10) (chunk c.loop-at.at 64 bytes) in
    omega (
      arith,
      count_by_chunk
          (λ b. b == 10) c.loop-at.at 64 bytes,
      block_count_is,
      c.loop-at.invariant.counted,
    )

pub overflow_add-count : goal.overflow_add-count
overflow_add-count c =
    let count_after_is = count_after_block c in
    let count_le_taken_length = count_by-le-length (λ b. b == 10)
    (take (c.loop-at.at + 64) c.args.bytes.now) in
    let count_le_length : c.loop-at.count + count_ones c.lf_mask.result
    ≤ length c.args.bytes.now =
    omega (arith, count_after_is, count_le_taken_length, length-take {A = ℕ}) in
    record { fits = omega arith }

pub loop-at-preserved : goal.loop-at-preserved
loop-at-preserved c =
    record {
      within = omega arith;
      counted =
          count_after_block (goal.at.loop-at-preserved c).After-lf_mask;
    }
