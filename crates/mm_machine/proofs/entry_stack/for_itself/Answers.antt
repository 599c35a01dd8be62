use Rattle.std.proofs.Common.{rules, arith}
use Rattle.mm_machine.proofs.EntryLaw.{entry_with_needed}
use Rattle.mm_machine.proofs.entry_stack.for_itself.Goals as goal

pub returns-clause-is_entry : goal.returns-clause-is_entry
returns-clause-is_entry g c = search (rules, arith, entry_with_needed)
