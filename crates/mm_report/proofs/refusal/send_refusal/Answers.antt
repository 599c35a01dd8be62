use Rattle.std.proofs.lemmas.Grind.{common_steps}
use Rattle.std.proofs.lemmas.List.{take_min}
use Rattle.std.proofs.Common.{ℕ, List, [], ◌∷◌, ◌++◌, ◌≡◌, codes, arith}
use Rattle.mm_spec.specs.Codes.{code_number}
use Rattle.mm_spec.specs.Report.{two_digits}
use Rattle.mm_report.proofs.SentLaw.{sent_both, sent_equal_text}
use Rattle.mm_report.proofs.refusal.send_refusal.Goals as goal

-- a refusal, put together piece by piece
refusal_regrouped : (a d e u t : List ℕ)
    → ((((((a ++ d) ++ 58 ∷ []) ++ e) ++ u) ++ t) ++ 10 ∷ [])
    ≡ ((a ++ d) ++ 58 ∷ ((e ++ u) ++ t)) ++ 10 ∷ []
refusal_regrouped a d e u t = grind (arith, common_steps)

pub returns : goal.returns
returns g c =
    sent_equal_text _
    (refusal_regrouped (codes "refused ") _ _ (codes " E")
    (two_digits (code_number c.args.fault.now.code)))
    (sent_both
    (sent_both
    (sent_both
    (sent_both
    (sent_both
    (sent_both c.send.ensures
    (rw (c.count_lf.ensures, c.min.ensures, take_min) at c.send_number.ensures))
    c.send_byte.ensures)
    (rw (c.bytes_after_line_feed.ensures.value_is, c.min.ensures, take_min)
    at c.send_number-2.ensures)) c.send-2.ensures)
    (rw c.number.ensures.is_code_number at c.send_two_digits.ensures))
    c.send_byte-2.ensures)
