use Rattle.std.proofs.Common.{◌≡◌, All}
use Rattle.mm_work.specs.Workers.{IsFreshSeat}
use Rattle.mm_work.proofs.threads.fn.work_all.scope.Given as goal

abbrev pub invariant-loop-worker : goal.invariant-loop-worker
invariant-loop-worker g l = record {
  seat_is_fresh : IsFreshSeat l.job.board.now l.own_seat;
  are_promised : All (λ h. h.promise.now ≡ l.job) l.handles.items;
}
