use Rattle.std.proofs.Common.{rules, arith}
use Rattle.mm_database.proofs.NearLaw.{near_are_together}
use Rattle.mm_database.proofs.near.are_together_near.Goals as goal

pub returns-then-active_at : goal.returns-then-active_at
returns-then-active_at g c = search (rules, arith, near_are_together)
