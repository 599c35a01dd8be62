use Rattle.std.proofs.Common.{◌-◌, length}
use Rattle.mm_scope.proofs.StretchesLaw.{IsStretchTo}
use Rattle.mm_scope.proofs.stretches.outlines_from.Given as goal

abbrev pub invariant-statements : goal.invariant-statements
invariant-statements g l = IsStretchTo l.text l.tokens l.blocks l.from l.outlines.items l.to

abbrev pub decreases-statements : goal.decreases-statements
decreases-statements g l = length l.tokens - l.to
