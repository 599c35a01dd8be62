use Rattle.std.proofs.Common.{rules, arith, slice_get}
use Rattle.mm_spec.proofs.OpenedLaw.{counted_names}
use Rattle.mm_database.proofs.database.Database.name.Goals as goal

pub name-requires : goal.name-requires
name-requires g c = search (rules, arith, counted_names)

pub returns : goal.returns
returns g c = search (rules, arith, slice_get, counted_names)
