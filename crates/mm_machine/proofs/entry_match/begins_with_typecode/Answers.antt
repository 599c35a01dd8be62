use Rattle.std.proofs.Common.{rules, arith, eq-eqb}
use Rattle.mm_machine.proofs.EntryMatchLaw.{typed_test_is, not_equal_test}
use Rattle.mm_machine.proofs.entry_match.begins_with_typecode.Goals as goal

pub returns-then-number : goal.returns-then-number
returns-then-number g c = search (rules, arith, typed_test_is, eq-eqb)

pub returns-else-number : goal.returns-else-number
returns-else-number g c = search (rules, arith, typed_test_is, not_equal_test)
