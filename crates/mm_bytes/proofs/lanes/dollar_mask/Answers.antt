use Rattle.std.proofs.Common.{eqb, w8, arith}
use Rattle.std.proofs.lemmas.Simd.{bitmask_splat}
use Rattle.mm_bytes.proofs.lanes.dollar_mask.Goals as goal

pub returns : goal.returns
returns c = bitmask_splat w8 eqb c.args.lanes 64 36 c.fits-lanes.0 (omega arith)
