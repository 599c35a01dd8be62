use Rattle.std.proofs.Common.{subst}
use Rattle.mm_spec.specs.Request.{Request}
use Rattle.mm_against.specs.Answered.{WroteAnswer}
use Rattle.mm_against.proofs.judged_both.answer_with.Goals as goal

pub write_answer-requires : goal.write_answer-requires
write_answer-requires g c =
    record {
      old_is_judged = rw c.request.ensures c.requires.old_is_judged;
      new_is_judged = rw c.request.ensures c.in-Ok.ensures;
    }

pub returns : goal.returns
returns g c =
    subst
    (λ (r : Request). WroteAnswer c.args.plan.now.and_report c.write_answer.result c.args.old_text.now
    c.args.new_text.now r (g.W.Write.contents c.args.to.now)
    (g.W.Write.contents c.write_answer.new.to))
    c.request.ensures c.write_answer.ensures
