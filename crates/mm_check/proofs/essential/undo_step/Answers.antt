use Rattle.std.proofs.Common.{rules, arith}
use Rattle.std.proofs.lemmas.Grind.{common_steps}
use Rattle.std.proofs.lemmas.Result.{IfOk-from_err}
use Rattle.mm_check.proofs.essential.undo_step.Goals as goal

pub returns-in_err-push_flags-in-Label-clause-notes_applied :
    goal.returns-in_err-push_flags-in-Label-clause-notes_applied
returns-in_err-push_flags-in-Label-clause-notes_applied g c = search (rules, arith, IfOk-from_err)

pub returns-in_err-push_flags-in-Label-clause-pushes_taken_flags :
    goal.returns-in_err-push_flags-in-Label-clause-pushes_taken_flags
returns-in_err-push_flags-in-Label-clause-pushes_taken_flags g c =
    grind (arith, common_steps, IfOk-from_err, c.from_residual-in_err-push_flags-in-Label.ensures.0)

pub returns-in_err-push_flags-in-Label-clause-sets_step_flag :
    goal.returns-in_err-push_flags-in-Label-clause-sets_step_flag
returns-in_err-push_flags-in-Label-clause-sets_step_flag g c = search (rules, arith, IfOk-from_err)
