use Rattle.std.proofs.Common.{rules, arith}
use Rattle.mm_database.proofs.KindsLaw.{test_by_kind, disjoint_kind}
use Rattle.mm_database.proofs.statements.Statements.is_disjoint.Goals as goal

pub returns : goal.returns
returns g c = search (rules, arith, test_by_kind, disjoint_kind)
