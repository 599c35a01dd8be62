use Rattle.std.proofs.Common.{rules, arith}
use Rattle.mm_laws.proofs.TheoremLaw.{theorem_is_valid_or_faulty, valid_theorem_has_no_fault}
use Rattle.mm_laws.proofs.TheoremLaw.{fault_is_unique}
use Rattle.mm_laws.proofs.theorems.theorems_are_valid_or_faulty.Goals as goal

pub returns : goal.returns
returns c =
    search (rules, arith, theorem_is_valid_or_faulty, valid_theorem_has_no_fault, fault_is_unique)
