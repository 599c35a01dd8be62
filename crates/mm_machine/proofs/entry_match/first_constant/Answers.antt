use Rattle.std.proofs.Common.{rules, arith}
use Rattle.mm_machine.proofs.EntryMatchLaw.{begins_with}
use Rattle.mm_machine.proofs.entry_match.first_constant.Goals as goal

pub returns-in-Constant-clause-is_first : goal.returns-in-Constant-clause-is_first
returns-in-Constant-clause-is_first c = search (rules, arith, begins_with)
