use Rattle.mm_report.proofs.SentLaw.{sent_both, sent_equal_text, two_digits_below_ten}
use Rattle.mm_report.proofs.SentLaw.{two_digits_from_ten}
use Rattle.mm_report.proofs.refusal.send_two_digits.Goals as goal

pub returns-then-n-lt10 : goal.returns-then-n-lt10
returns-then-n-lt10 g c =
    sent_equal_text _ (two_digits_below_ten c.args.n c.if-n-lt10.true)
    (sent_both c.send_byte.ensures c.send_number.ensures)

pub returns-else-n-lt10 : goal.returns-else-n-lt10
returns-else-n-lt10 g c =
    sent_equal_text _ (two_digits_from_ten c.args.n c.requires c.if-n-lt10.false)
    c.send_number-else-n-lt10.ensures
