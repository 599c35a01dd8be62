use Rattle.std.proofs.Common.{rules, arith}
use Rattle.mm_machine.proofs.MachineLaw.{empty_machine}
use Rattle.mm_machine.proofs.OwnersLaw.{no_entries_masked}
use Rattle.mm_machine.proofs.machine.Machine.restart.Goals as goal

pub invariant_of-self : goal.invariant_of-self
invariant_of-self g c = search (rules, arith, empty_machine, no_entries_masked)
