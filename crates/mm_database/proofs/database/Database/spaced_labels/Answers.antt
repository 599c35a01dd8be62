use Rattle.std.proofs.Common.{rules, slice_range, arith}
use Rattle.std.proofs.lemmas.List.{length-map}
use Rattle.mm_database.proofs.SpacedLaw.{spaced_slice}
use Rattle.mm_database.proofs.database.Database.spaced_labels.Goals as goal

pub between-requires-clause-to_le_count : goal.between-requires-clause-to_le_count
between-requires-clause-to_le_count g c = search (rules, arith, length-map)

pub returns : goal.returns
returns g c = search (rules, arith, slice_range, spaced_slice)
