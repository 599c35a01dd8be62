use Rattle.std.proofs.Common.{ℕ, List, subst}
use Rattle.mm_spec.specs.Ends.{Wrote}
use Rattle.mm_plan.specs.Plans.{request_of}
use Rattle.mm_run.proofs.EndsLaw.{ends_of_answers}
use Rattle.mm_run.proofs.run.Goals as goal

pub returns-in-Ok : goal.returns-in-Ok
returns-in-Ok g c =
    let request = request_of c.args.plan.now in
    ends_of_answers c.answer.result c.read_all.new.text.items request _ _ _ _
    c.in-Ok.ensures.gave_text
    (subst (λ (text : List ℕ). Wrote c.answer.result text request
    (g.O.Write.contents c.args.to.now) (g.O.Write.contents c.answer.new.to))
    c.deref.ensures.value c.answer.ensures)
