use Rattle.std.proofs.Common.{◌∙◌}
use Rattle.mm_frame.proofs.LatestLaw.{part_at}
use Rattle.mm_frame.proofs.active.is_part.Goals as goal

pub returns : goal.returns
returns g c =
    c.is_part_kind.ensures
    ∙ part_at c.args.essentials_alone c.args.statements.now.list c.args.statement c.kind.result
    c.kind.ensures
