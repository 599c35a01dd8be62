use Rattle.std.proofs.Common.{refl}
use Rattle.mm_check.proofs.EndLaw.{is_proof, noted_are_cited, is_checked, end_refusal_is_right}
use Rattle.mm_check.proofs.checker.Checker.finish.Goals as goal

pub returns-in-Err-clause-refusal_is_right : goal.returns-in-Err-clause-refusal_is_right
returns-in-Err-clause-refusal_is_right g c =
    end_refusal_is_right c.args.database.now.statements c.args.theorem c.args.steps.now.steps _ _
    c.self.view_is c.requires c.in-Err.refused c.in-Err.ensures.is_end_refusal

pub retain_cited-requires-clause-has_proof : goal.retain_cited-requires-clause-has_proof
retain_cited-requires-clause-has_proof g c =
    is_proof c.args.database.now.statements c.args.theorem c.args.steps.now.steps _ _ c.self.view_is
    c.requires c.in_default.ensures.is_only_entry

pub retain_cited-requires-clause-noted_are_cited : goal.retain_cited-requires-clause-noted_are_cited
retain_cited-requires-clause-noted_are_cited g c =
    noted_are_cited c.args.database.now.statements c.args.theorem c.args.steps.now.steps _ _
    c.self.view_is c.requires c.in_default.ensures.is_only_entry

pub returns-clause-is_checked : goal.returns-clause-is_checked
returns-clause-is_checked g c =
    let cites_are = c.in_ok-cites.ensures in (
      refl,
      is_checked c.args.database.now.statements c.args.theorem c.args.steps.now.steps _ _
          c.self.view_is c.requires c.in_default.ensures.is_only_entry c.args.essential _ _
          c.in_ok-retain_cited.ensures cites_are.cites_rise
          cites_are.members_stay,
    )
