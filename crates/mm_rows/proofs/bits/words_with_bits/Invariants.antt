use Rattle.mm_rows.specs.Bits.{EndsAt}
use Rattle.mm_rows.proofs.bits.words_with_bits.Given as goal

abbrev pub invariant-loop-end : goal.invariant-loop-end
invariant-loop-end l = EndsAt l.row l.end

abbrev pub decreases-loop-end : goal.decreases-loop-end
decreases-loop-end l = l.end
