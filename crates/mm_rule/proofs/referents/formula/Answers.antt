use Rattle.mm_spec.specs.Citation.{is_assertion}
use Rattle.mm_outline.proofs.StatementsLaw.{passing_lt_length}
use Rattle.mm_rule.proofs.referents.formula.Goals as goal

pub formula-requires : goal.formula-requires
formula-requires g c =
    passing_lt_length is_assertion c.args.database.now.statements c.args.assertion c.requires
