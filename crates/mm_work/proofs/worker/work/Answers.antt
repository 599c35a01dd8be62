use Rattle.std.proofs.Common.{◌∙◌, Bool, ap, refl}
use Rattle.mm_board.specs.declared.views.View.{View}
use Rattle.mm_work.proofs.WorkersLaw.{between_at_start, done_at_start, drawn_after_claim}
use Rattle.mm_work.proofs.WorkersLaw.{unrecorded_drops_after_draw}
use Rattle.mm_work.proofs.worker.work.Goals as goal

pub returns-in_default : goal.returns-in_default
returns-in_default g c =
    done_at_start c.args.job.now c.args.seat _ c.requires.seat_is_fresh (refl {A = Bool})

pub loop-index-init : goal.loop-index-init
loop-index-init g c = record {
  made_for = c.in-Ok.ensures;
  is_between =
      between_at_start c.args.job.now c.args.seat c.new.result c.requires.seat_is_fresh
      c.new.ensures.none_valid
      c.new.ensures.no_cites c.new.ensures.no_fault;
  not_over = c.requires.seat_is_fresh.not_over;
}

pub loop-index-smaller : goal.loop-index-smaller
loop-index-smaller g c =
    unrecorded_drops_after_draw c.args.job.now.board.now.count c.in-Some.index
    c.loop-index.state.seat.view c.claim.new.seat.view c.settle_drawn.new.state.seat.view
    c.loop-index.invariant.is_between.no_number_open c.in-Some.ensures.opens_number
    c.in-Some.ensures.number_lt_count
    c.in-Some.ensures.number_gt_record c.settle_drawn.ensures.record_stays

pub settle_drawn-requires-clause-has_drawn : goal.settle_drawn-requires-clause-has_drawn
settle_drawn-requires-clause-has_drawn g c =
    drawn_after_claim c.args.job.now c.in-Some.index c.loop-index.state c.claim.new.seat
    c.requires.is_of_database c.loop-index.invariant.is_between c.in-Some.ensures.number_lt_count
    c.claim.ensures.is_of_board c.in-Some.ensures.opens_number c.in-Some.ensures.number_gt_record

pub loop-index-preserved : goal.loop-index-preserved
loop-index-preserved g c = record {
  made_for = c.settle_drawn.ensures.made_for;
  is_between = c.settle_drawn.ensures.is_between;
  not_over =
      c.settle_drawn.ensures.over_stays ∙ ap (λ (v : View). v.over) c.in-Some.ensures.opens_number
      ∙ c.loop-index.invariant.not_over;
}
