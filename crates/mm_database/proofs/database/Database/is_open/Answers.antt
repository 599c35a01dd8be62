use Rattle.std.proofs.Common.{rules, arith, slice_get}
use Rattle.std.proofs.Math.Bool.{and-false}
use Rattle.mm_spec.proofs.OpenedLaw.{counted_length}
use Rattle.mm_database.proofs.DatabaseLaw.{as_many_statements, none_past_the_end}
use Rattle.mm_database.proofs.KindsLaw.{is_open_by_kinds}
use Rattle.mm_database.proofs.database.Database.is_open.Goals as goal

pub returns-then-statement-len : goal.returns-then-statement-len
returns-then-statement-len g c = search (rules, arith, counted_length, none_past_the_end, and-false)

pub kind-kind_as_read-requires : goal.kind-kind_as_read-requires
kind-kind_as_read-requires g c = search (rules, arith, as_many_statements)

pub returns : goal.returns
returns g c = search (rules, arith, is_open_by_kinds, slice_get)
