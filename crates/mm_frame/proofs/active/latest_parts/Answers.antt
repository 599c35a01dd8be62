use Rattle.std.proofs.Common.{rules, arith}
use Rattle.std.proofs.lemmas.Grind.{common_steps, get_or_default_zero}
use Rattle.mm_frame.proofs.LatestLaw.{statement_is_candidate, latest_is_candidate_after_other}
use Rattle.mm_frame.proofs.LatestLaw.{each_latest_with_next}
use Rattle.mm_frame.proofs.active.latest_parts.Goals as goal
use Rattle.mm_frame.proofs.active.latest_parts.Goals.{then-is_part, else-is_part}

pub latest_part-part-requires-clause-is_candidate :
    goal.latest_part-part-requires-clause-is_candidate
latest_part-part-requires-clause-is_candidate g c =
    search (
      rules,
      arith,
      then-is_part,
      statement_is_candidate,
      else-is_part,
      get_or_default_zero,
      latest_is_candidate_after_other,
    )

pub loop-statement-preserved : goal.loop-statement-preserved
loop-statement-preserved g c = grind (arith, common_steps, each_latest_with_next)
