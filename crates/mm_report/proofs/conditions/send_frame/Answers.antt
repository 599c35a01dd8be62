use Rattle.std.proofs.Common.{◌∙◌, length}
use Rattle.mm_spec.specs.Citation.{is_assertion}
use Rattle.mm_spec.specs.Frame.{symbol_names}
use Rattle.mm_spec.proofs.FindsLaw.{passing_statement, got_lt_length}
use Rattle.mm_tell.proofs.ListsLaw.{hypotheses_bounded}
use Rattle.mm_report.proofs.SentLaw.{sent_both}
use Rattle.mm_report.proofs.AssertionLaw.{selected_pairs_are_below}
use Rattle.mm_report.proofs.conditions.send_frame.Goals as goal

pub send_hypotheses-requires : goal.send_hypotheses-requires
send_hypotheses-requires g c =
    let db = c.args.database.now.statements in
    let k = c.args.assertion in
    let found = passing_statement db is_assertion k c.requires in
    rw (c.deref.ensures.value ∙ c.frame-frame.ensures.hypotheses)
    (hypotheses_bounded db k (length db) (got_lt_length db k found.0 found.1))

pub send_pairs-requires : goal.send_pairs-requires
send_pairs-requires g c =
    rw (c.deref-2.ensures.value, c.frame-frame.ensures.pairs)
    (selected_pairs_are_below _ (length (symbol_names c.args.database.now.statements)))

pub returns : goal.returns
returns g c =
    sent_both
    (rw (c.deref.ensures.value ∙ c.frame-frame.ensures.hypotheses) at c.send_hypotheses.ensures)
    (rw (c.deref-2.ensures.value, c.frame-frame.ensures.pairs) at c.send_pairs.ensures)
