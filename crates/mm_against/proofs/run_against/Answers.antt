use Rattle.std.proofs.Common.{ℕ, List, subst}
use Rattle.mm_plan.specs.Plans.{request_of}
use Rattle.mm_against.specs.Answered.{WroteAnswer}
use Rattle.mm_against.proofs.WrittenLaw.{ends_of_answer}
use Rattle.mm_against.proofs.run_against.Goals as goal

pub returns-in-Ok-read_all : goal.returns-in-Ok-read_all
returns-in-Ok-read_all g c =
    let flag = c.args.plan.now.and_report in
    let end = c.answer_against.result in
    let request = request_of c.args.plan.now in
    let before = g.O.Write.contents c.args.to.now in
    let after = g.O.Write.contents c.answer_against.new.to in
    let old = c.read_all.new.text.items in
    ends_of_answer flag end old c.read_all-2.new.text.items request _ _ _ _ before after
    c.in-Ok.ensures.gave_text c.in-Ok-read_all.ensures.gave_text
    (subst (λ (text : List ℕ). WroteAnswer flag end old text request before after)
    c.deref-in-Ok-read_all.ensures.value
    (subst
    (λ (text : List ℕ). WroteAnswer flag end text c.deref-in-Ok-read_all.result.now request before
    after) c.deref.ensures.value c.answer_against.ensures))
