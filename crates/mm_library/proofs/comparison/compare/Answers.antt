use Rattle.std.proofs.Common.{subst}
use Rattle.mm_spec.specs.Request.{Request}
use Rattle.mm_run.specs.Judging.{IsJudgedText}
use Rattle.mm_library.proofs.comparison.compare.Goals as goal

pub compare_with-requires : goal.compare_with-requires
compare_with-requires g c =
    record {
      length_le_limit = c.requires.new_le_limit;
      old_is_judged =
          subst
          (λ (r : Request). IsJudgedText c.args.old_text.now r.essential r.with_open c.in-Ok.old)
          c.request.view_is c.in-Ok.ensures;
    }
