use Rattle.std.proofs.Common.{subst}
use Rattle.mm_spec.specs.Request.{Request}
use Rattle.mm_run.specs.Judging.{IsJudgedText}
use Rattle.mm_library.proofs.comparison.compare_with.Goals as goal

pub write_to_front-requires : goal.write_to_front-requires
write_to_front-requires g c =
    record {
      old_is_judged = c.requires.old_is_judged;
      new_is_judged =
          subst
          (λ (r : Request). IsJudgedText c.args.new_text.now r.essential r.with_open c.in-Ok.new)
          c.request.view_is c.in-Ok.ensures;
    }
