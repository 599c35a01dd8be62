use Rattle.std.proofs.Common.{◌∙◌, ◌<◌, length, get_or, refl, subst, arith}
use Rattle.std.proofs.lemmas.List.{length-set, get_or_default}
use Rattle.mm_work.specs.Positions.{IsWithWorker}
use Rattle.mm_work.specs.declared.merge.ListPosition.{ListPosition}
use Rattle.mm_work.proofs.PositionsLaw.{with_worker_before_next, others_stay_or_with_worker}
use Rattle.mm_work.proofs.merge.set_positions.Goals as goal

pub loop-list-preserved : goal.loop-list-preserved
loop-list-preserved c =
    let positions = c.loop-list.positions in
    let k = c.loop-list.list in
    let x = get_or c.args.valid.now k 0 in
    let p : ListPosition = record { worker = c.args.worker; list = k } in
    let x_lt_length : x < length positions =
    omega (arith, c.requires k 0 c.loop-list-test.true, c.loop-list.invariant.count_is) in
    record {
      count_is = length-set positions x p ∙ c.loop-list.invariant.count_is;
      are_with_worker =
          with_worker_before_next c.args.positions.now positions c.args.worker c.args.valid.now k x
          p refl x_lt_length
          c.loop-list-test.true refl refl c.loop-list.invariant.are_with_worker;
      others_stay =
          others_stay_or_with_worker c.args.positions.now positions c.args.worker c.args.valid.now k
          x p refl x_lt_length
          c.loop-list-test.true refl refl c.loop-list.invariant.others_stay;
    }

pub returns-clause-are_with_worker : goal.returns-clause-are_with_worker
returns-clause-are_with_worker c = λ q d q_lt_length.
    subst (λ i. IsWithWorker c.loop-list.positions c.args.worker c.args.valid.now i)
    (get_or_default c.args.valid.now q 0 d q_lt_length) (c.loop-list.invariant.are_with_worker q
    (omega (arith, q_lt_length, c.loop-list.auto.list-end, c.loop-list-test.false)))
