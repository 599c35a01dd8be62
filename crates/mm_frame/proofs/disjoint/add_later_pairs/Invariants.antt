use Rattle.std.proofs.Common.{◌-◌, length}
use Rattle.mm_frame.proofs.MandatoryPairsLaw.{AddsLater}
use Rattle.mm_frame.proofs.disjoint.add_later_pairs.Given as goal

abbrev pub invariant-loop-later : goal.invariant-loop-later
invariant-loop-later g l = AddsLater l.by_statement l.fn.index l.later l.initial.pairs.items
    l.pairs.items

abbrev pub decreases-loop-later : goal.decreases-loop-later
decreases-loop-later g l = length l.by_statement - l.later
