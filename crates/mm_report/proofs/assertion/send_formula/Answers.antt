use Rattle.mm_report.proofs.SentLaw.{sent_both}
use Rattle.mm_report.proofs.assertion.send_formula.Goals as goal

pub returns : goal.returns
returns g c =
    let keyword_sent =
    rw (c.kind_keyword.ensures, c.is_axiom_at-is_axiom.ensures) at c.send_spaced.ensures in
    let symbols_sent = rw c.formula.ensures.formula at c.send_symbols.ensures in
    sent_both (sent_both keyword_sent symbols_sent) c.send_byte.ensures
