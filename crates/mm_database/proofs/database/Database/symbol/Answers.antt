use Rattle.std.proofs.Common.{rules, arith}
use Rattle.mm_spec.proofs.OpenedLaw.{counted_names}
use Rattle.mm_database.proofs.SymbolsLaw.{index_of_le_length}
use Rattle.mm_database.proofs.database.Database.symbol.Goals as goal

pub returns : goal.returns
returns g c = search (rules, arith, counted_names, index_of_le_length)
