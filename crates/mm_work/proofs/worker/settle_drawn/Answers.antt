use Rattle.std.proofs.Common.{◌∙◌, Bool, Option, ℕ, ap, sym}
use Rattle.std.specs.Prelude.{is_some, not}
use Rattle.mm_board.specs.declared.views.View.{View}
use Rattle.mm_work.proofs.WorkersLaw.{between_after_skip, number_stays_open, between_after_settle}
use Rattle.mm_work.proofs.WorkersLaw.{between_after_report}
use Rattle.mm_work.proofs.worker.settle_drawn.Goals as goal

pub settle-requires-clause-number_is_open : goal.settle-requires-clause-number_is_open
settle-requires-clause-number_is_open g c =
    number_stays_open c.args.job.now c.args.index c.args.state.now c.requires.has_drawn
    c.look.new.seat c.look.result c.look.ensures.looks.1 (ap (λ (o : Option ℕ). is_some o)
    (sym c.held.ensures) ∙ c.is_none.ensures ∙ ap (λ (b : Bool). not b) c.if-is_none.false)

pub report-requires-clause-number_is_open : goal.report-requires-clause-number_is_open
report-requires-clause-number_is_open g c =
    number_stays_open c.args.job.now c.args.index c.args.state.now c.requires.has_drawn
    c.look.new.seat c.look.result c.look.ensures.looks.1 (ap (λ (o : Option ℕ). is_some o)
    (sym c.held.ensures) ∙ c.is_none.ensures ∙ ap (λ (b : Bool). not b) c.if-is_none.false)

pub returns-then-is_none-clause-is_between : goal.returns-then-is_none-clause-is_between
returns-then-is_none-clause-is_between g c =
    between_after_skip c.args.job.now c.args.index c.args.state.now c.requires.has_drawn
    c.look.new.seat c.look.result c.look.ensures.looks.1 c.look.ensures.is_of_board
    (ap (λ (o : Option ℕ). is_some o) (sym c.held.ensures) ∙ c.is_none.ensures
    ∙ ap (λ (b : Bool). not b) c.if-is_none.true)

pub returns-then-is_none-clause-over_stays : goal.returns-then-is_none-clause-over_stays
returns-then-is_none-clause-over_stays g c = ap (λ (v : View). v.over) c.look.ensures.looks.1

pub returns-then-check_theorem-clause-is_between : goal.returns-then-check_theorem-clause-is_between
returns-then-check_theorem-clause-is_between g c =
    between_after_settle c.args.job.now c.args.index c.args.state.now c.requires.has_drawn
    c.look.new.seat c.look.result c.look.ensures.looks.1 c.settle.new.seat
    c.settle.ensures.settles.0 c.check_theorem.new.findings (ap (λ (o : Option ℕ). is_some o)
    (sym c.held.ensures) ∙ c.is_none.ensures ∙ ap (λ (b : Bool). not b) c.if-is_none.false)
    c.settle.ensures.is_of_board c.check_theorem.ensures.memory_lasted c.settle.ensures.settles.2
    (λ not_short. c.check_theorem.ensures.finds_valid not_short c.if-check_theorem.true)

pub returns-then-check_theorem-clause-over_stays : goal.returns-then-check_theorem-clause-over_stays
returns-then-check_theorem-clause-over_stays g c =
    ap (λ (v : View). v.over) c.settle.ensures.settles.2
    ∙ ap (λ (v : View). v.over) c.look.ensures.looks.1

pub returns-then-check_theorem-clause-record_stays :
    goal.returns-then-check_theorem-clause-record_stays
returns-then-check_theorem-clause-record_stays g c = λ i. c.settle.ensures.record_stays i
    ∙ c.look.ensures.record_stays i

pub returns-else-check_theorem-clause-is_between : goal.returns-else-check_theorem-clause-is_between
returns-else-check_theorem-clause-is_between g c =
    between_after_report c.args.job.now c.args.index c.args.state.now c.requires.has_drawn
    c.look.new.seat c.look.result c.look.ensures.looks.1 c.report.new.seat
    c.report.ensures.reports.0 c.check_theorem.new.findings (ap (λ (o : Option ℕ). is_some o)
    (sym c.held.ensures) ∙ c.is_none.ensures ∙ ap (λ (b : Bool). not b) c.if-is_none.false)
    c.report.ensures.is_of_board c.check_theorem.ensures.memory_lasted c.report.ensures.reports.2
    c.look.ensures.floor_le_reported (λ not_short. c.check_theorem.ensures.finds_fault not_short
    c.if-check_theorem.false)

pub returns-else-check_theorem-clause-over_stays : goal.returns-else-check_theorem-clause-over_stays
returns-else-check_theorem-clause-over_stays g c =
    ap (λ (v : View). v.over) c.report.ensures.reports.2
    ∙ ap (λ (v : View). v.over) c.look.ensures.looks.1

pub returns-else-check_theorem-clause-record_stays :
    goal.returns-else-check_theorem-clause-record_stays
returns-else-check_theorem-clause-record_stays g c = λ i. c.report.ensures.record_stays i
    ∙ c.look.ensures.record_stays i
