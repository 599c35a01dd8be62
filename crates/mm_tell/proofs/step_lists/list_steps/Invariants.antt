use Rattle.std.proofs.Common.{◌≡◌, map, take}
use Rattle.mm_steps.specs.TheoremSteps.{as_step}
use Rattle.mm_tell.proofs.step_lists.list_steps.Given as goal

abbrev pub invariant-loop-index : goal.invariant-loop-index
invariant-loop-index g l =
    map as_step l.into.items ≡ map (λ p. p.step) (take l.index l.steps.steps)
