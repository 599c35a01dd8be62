use Rattle.std.proofs.Common.{subst, sym}
use Rattle.mm_spec.specs.Output.{AllAreValid}
use Rattle.mm_run.proofs.prepared.prepare.Goals as goal

pub steps_for-requires : goal.steps_for-requires
steps_for-requires g c =
    subst AllAreValid (sym c.requires.is_counted.statements_are) c.requires.has_no_fault.1
