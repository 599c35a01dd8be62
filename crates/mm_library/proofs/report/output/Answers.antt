use Rattle.std.proofs.Common.{subst}
use Rattle.mm_spec.specs.Request.{Request}
use Rattle.mm_run.specs.Judging.{IsJudgedText}
use Rattle.mm_library.proofs.report.output.Goals as goal

pub write_to_front-requires : goal.write_to_front-requires
write_to_front-requires g c =
    record {
      is_judged =
          subst
          (λ (r : Request). IsJudgedText c.args.text.now r.essential r.with_open
          c.in-Ok.judged) c.request.view_is c.in-Ok.ensures;
    }
