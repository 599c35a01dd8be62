use Rattle.std.proofs.Common.{All, vec_len}
use Rattle.mm_work.specs.Workers.{IsDone, AreGathered}
use Rattle.mm_work.proofs.threads.join_all.Given as goal

abbrev pub invariant-loop-other : goal.invariant-loop-other
invariant-loop-other g l = record {
  are_gathered : AreGathered l.job l.seat l.all_findings.items;
  others_are_done : All (IsDone l.job) l.others.items;
}

abbrev pub decreases-loop-other : goal.decreases-loop-other
decreases-loop-other g l = vec_len l.others
