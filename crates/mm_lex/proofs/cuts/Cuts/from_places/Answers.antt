use Rattle.std.proofs.Common.{arith}
use Rattle.mm_lex.proofs.cuts.Cuts.from_places.Goals as goal

pub loop-i-init : goal.loop-i-init
loop-i-init g c k k_lt_zero = absurd (omega (arith, k_lt_zero))

pub loop-place-init : goal.loop-place-init
loop-place-init g c k k_lt_zero = absurd (omega (arith, k_lt_zero))
