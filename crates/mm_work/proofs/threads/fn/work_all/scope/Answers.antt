use Rattle.std.proofs.Common.{◌≡◌, ◌<◌, ◌∙◌, get_or, ap, subst, arith, vec_len}
use Rattle.mm_work.specs.Workers.{IsDone}
use Rattle.mm_work.specs.declared.job.Job.{Job}
use Rattle.std.proofs.lemmas.List.Elements.{All-push}
use Rattle.mm_work.proofs.threads.fn.work_all.scope.Goals.{in-Some+in_default-spawn_with+in-Err-1}
use Rattle.mm_work.proofs.threads.fn.work_all.scope.Goals.{in-Some+in_default-spawn_with+in-Ok-1}
use Rattle.mm_work.proofs.threads.fn.work_all.scope.Goals.{in-Some+in-Ok+in_ok-push, in_default}
use Rattle.mm_work.proofs.threads.fn.work_all.scope.Goals as goal

pub join_all-requires : goal.join_all-requires
join_all-requires g c = record {
  first_is_done = c.work-first.ensures;
  others_are_done = λ k d k_lt_length.
      let k_lt_handle_count : k < vec_len c.loop-worker.handles = omega (
        arith,
        c.in-Ok-join_promised.ensures.len,
        c.in-Ok-join_promised.others.ok.0,
        k_lt_length,
      ) in
      let is_kept = (c.in-Ok-join_promised.ensures.each k d k_lt_handle_count).1 in
      subst (λ (j : Job _). IsDone j (get_or c.in-Ok-join_promised.others.items k d))
      (ap (λ h. h.promise.now) is_kept.handle_is ∙ (c.loop-worker.invariant.are_promised k
      is_kept.handle (omega (arith, k_lt_handle_count, c.loop-worker.handles.ok.0))))
      is_kept.kept;
}

pub loop-worker-preserved : goal.loop-worker-preserved
loop-worker-preserved g c = record {
  seat_is_fresh = c.split_off.ensures.old_is_fresh;
  are_promised = elim c.match-split_off.branch [
    | in-Some+in-Ok+in_ok-push w ↦ rw (w.handles-is, w.in_ok-push.ensures.items)
        (All-push (λ h. h.promise.now ≡ c.captures.job.now) c.loop-worker.handles.items
        w.in-Ok.handle c.loop-worker.invariant.are_promised (ap (λ p. p.now) w.in-Ok.ensures.ok))
    | in-Some+in_default-spawn_with+in-Err-1 w ↦ rw w.handles-is
        c.loop-worker.invariant.are_promised
    | in-Some+in_default-spawn_with+in-Ok-1 w ↦ rw w.handles-is c.loop-worker.invariant.are_promised
    | in_default w ↦ rw w.handles-is c.loop-worker.invariant.are_promised
  ];
}
