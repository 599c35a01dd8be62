use Rattle.mm_report.proofs.SentLaw.{sent_both}
use Rattle.mm_report.proofs.conditions.send_hypothesis.Goals as goal

pub returns : goal.returns
returns g c =
    let keyword_sent = rw c.hypothesis_keyword.ensures at c.send_spaced.ensures in
    let label_sent = rw c.label_of.ensures at c.send_spaced-2.ensures in
    let symbols_sent = rw c.formula.ensures.formula at c.send_symbols.ensures in
    sent_both (sent_both keyword_sent label_sent) symbols_sent
