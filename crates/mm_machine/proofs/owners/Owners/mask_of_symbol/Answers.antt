use Rattle.std.proofs.Common.{rules, arith}
use Rattle.mm_machine.proofs.OwnersLaw.{own_bit}
use Rattle.mm_machine.proofs.owners.Owners.mask_of_symbol.Goals as goal

pub returns-in-Some-clause-is_masked : goal.returns-in-Some-clause-is_masked
returns-in-Some-clause-is_masked g c = search (rules, arith, own_bit)

pub returns-in-None-clause-is_masked : goal.returns-in-None-clause-is_masked
returns-in-None-clause-is_masked g c = search (rules, arith, own_bit)
