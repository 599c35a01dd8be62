use Rattle.std.proofs.Common.{◌∙◌, length}
use Rattle.mm_spec.specs.Frame.{symbol_names}
use Rattle.mm_tell.proofs.ListsLaw.{dummies_bounded}
use Rattle.mm_report.proofs.SentLaw.{sent_both}
use Rattle.mm_report.proofs.AssertionLaw.{selected_pairs_are_below}
use Rattle.mm_report.proofs.conditions.send_conditions.Goals as goal

pub send_dummies-requires : goal.send_dummies-requires
send_dummies-requires g c =
    rw (c.variables.ensures ∙ c.requires.have_dummies.variables_are)
    (dummies_bounded c.args.database.now.statements c.args.assertion)

pub send_pairs-requires : goal.send_pairs-requires
send_pairs-requires g c =
    rw (c.pairs.ensures ∙ c.requires.have_dummies.pairs_are)
    (selected_pairs_are_below _ (length (symbol_names c.args.database.now.statements)))

pub variables-requires : goal.variables-requires
variables-requires g c = c.requires.have_dummies.variables_listed

pub pairs-requires : goal.pairs-requires
pairs-requires g c = c.requires.have_dummies.pairs_listed

pub returns : goal.returns
returns g c =
    sent_both
    (sent_both c.send_frame.ensures
    (rw (c.variables.ensures ∙ c.requires.have_dummies.variables_are) at c.send_dummies.ensures))
    (rw (c.pairs.ensures ∙ c.requires.have_dummies.pairs_are) at c.send_pairs.ensures)
