use Rattle.std.proofs.Common.{rules, arith}
use Rattle.mm_machine.proofs.FilledLaw.{part_has_symbols}
use Rattle.mm_machine.proofs.symbol_lists.append_part.Goals as goal

pub returns-in-Variable-clause-are_symbols : goal.returns-in-Variable-clause-are_symbols
returns-in-Variable-clause-are_symbols g c = search (rules, arith, part_has_symbols)
