use Rattle.std.proofs.Common.{rules, arith}
use Rattle.mm_machine.proofs.FlagRowsLaw.{next_stays_disjoint}
use Rattle.mm_machine.proofs.flag_rows.FlagRows.insert_in_row.Goals as goal

pub loop-other-preserved : goal.loop-other-preserved
loop-other-preserved g c = search (rules, arith, next_stays_disjoint)
