use Rattle.std.proofs.Common.{◌≡◌, false}
use Rattle.mm_check.specs.Checker.{IsMadeFor}
use Rattle.mm_work.specs.Workers.{IsBetweenTheorems}
use Rattle.mm_work.proofs.WorkersLaw.{unrecorded}
use Rattle.mm_work.proofs.worker.work.Given as goal

abbrev pub invariant-loop-index : goal.invariant-loop-index
invariant-loop-index g l = record {
  made_for : IsMadeFor l.job.database.now.statements l.checker;
  is_between : IsBetweenTheorems l.job l.state;
  not_over : l.state.seat.view.over ≡ false;
}

abbrev pub decreases-loop-index : goal.decreases-loop-index
decreases-loop-index g l = unrecorded l.job.board.now.count l.state.seat.view
