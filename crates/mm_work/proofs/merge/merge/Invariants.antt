use Rattle.mm_spec.specs.Output.{theorems}
use Rattle.mm_work.specs.Judged.{HaveCitationsUpTo}
use Rattle.mm_work.proofs.merge.merge.Given as goal

abbrev pub invariant-loop-position : goal.invariant-loop-position
invariant-loop-position g l =
    HaveCitationsUpTo l.database.statements l.essential
    (theorems l.database.statements) l.position-index l.lists
