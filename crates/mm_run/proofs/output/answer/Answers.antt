use Rattle.std.proofs.Common.{subst}
use Rattle.mm_spec.specs.Ends.{Wrote}
use Rattle.mm_spec.specs.Request.{Request}
use Rattle.mm_run.proofs.output.answer.Goals as goal

pub write_judged-requires : goal.write_judged-requires
write_judged-requires g c = record { is_judged = rw c.request.ensures c.in-Ok.ensures }

pub returns : goal.returns
returns g c =
    subst
    (λ (r : Request). Wrote c.write_judged.result c.args.text.now r
    (g.W.Write.contents c.args.to.now) (g.W.Write.contents c.write_judged.new.to))
    c.request.ensures c.write_judged.ensures
