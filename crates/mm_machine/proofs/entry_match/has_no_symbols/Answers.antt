use Rattle.std.proofs.Common.{arith}
use Rattle.std.proofs.lemmas.Grind.{common_steps}
use Rattle.mm_machine.proofs.EntryMatchLaw.{empty_test_is}
use Rattle.mm_machine.proofs.entry_match.has_no_symbols.Goals as goal

pub returns : goal.returns
returns g c = grind (arith, common_steps, empty_test_is, c.requires.is_entry, c.is_symbol.ensures)
