use Rattle.std.proofs.Common.{ℕ, ◌<◌}
use Rattle.mm_bits.proofs.BitLaw.{HasWord}
use Rattle.mm_bits.proofs.has_all.Given as goal

abbrev pub invariant-loop-index : goal.invariant-loop-index
invariant-loop-index l = (k : ℕ) → k < l.index → HasWord l.row l.bits k
