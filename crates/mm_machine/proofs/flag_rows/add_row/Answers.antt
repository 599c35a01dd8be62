use Rattle.std.proofs.Common.{rules, arith}
use Rattle.mm_machine.proofs.FlagRowsLaw.{grown_stay_disjoint}
use Rattle.mm_machine.proofs.flag_rows.add_row.Goals as goal

pub returns-then-is_err-3-clause-stay_disjoint : goal.returns-then-is_err-3-clause-stay_disjoint
returns-then-is_err-3-clause-stay_disjoint g c = search (rules, arith, grown_stay_disjoint)

pub returns-clause-stay_disjoint : goal.returns-clause-stay_disjoint
returns-clause-stay_disjoint g c = search (rules, arith, grown_stay_disjoint)
