use Rattle.std.proofs.Common.{rules, arith, length-append}
use Rattle.std.proofs.lemmas.Grind.{common_steps}
use Rattle.mm_machine.proofs.OwnersLaw.{flags_push, all_flags}
use Rattle.mm_machine.proofs.owners.list_variable_flags.Goals as goal

pub loop-number-init : goal.loop-number-init
loop-number-init g c = grind (arith, common_steps, c.new-variables.ensures.items)

pub loop-number-preserved : goal.loop-number-preserved
loop-number-preserved g c = search (rules, arith, length-append, flags_push)

pub returns : goal.returns
returns g c = search (rules, arith, all_flags)
