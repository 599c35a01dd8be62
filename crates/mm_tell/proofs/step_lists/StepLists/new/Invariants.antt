use Rattle.std.proofs.Common.{◌≡◌, map, take}
use Rattle.mm_spec.specs.Output.{theorems}
use Rattle.mm_spec.specs.ProofLine.{proof_steps}
use Rattle.mm_steps.specs.TheoremSteps.{as_step}
use Rattle.mm_tell.proofs.step_lists.StepLists.new.Given as goal

abbrev pub invariant-loop-theorem : goal.invariant-loop-theorem
invariant-loop-theorem g l =
    map (map as_step) l.lists
    ≡ map (proof_steps l.database.statements)
    (take l.theorem-index (theorems l.database.statements))
