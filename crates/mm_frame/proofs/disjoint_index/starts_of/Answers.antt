use Rattle.std.proofs.Common.{rules, arith}
use Rattle.mm_database.proofs.StartsLaw.{starts_push, starts_of_all_pairs}
use Rattle.mm_frame.proofs.disjoint_index.starts_of.Goals as goal

pub loop-starts-preserved : goal.loop-starts-preserved
loop-starts-preserved g c = search (rules, arith, starts_push)

pub returns : goal.returns
returns g c = search (rules, arith, starts_of_all_pairs)
