use Rattle.std.proofs.Common.{sym, ap, ◌∙◌}
use Rattle.mm_spec.specs.Roles.{role_of, fault_of}
use Rattle.mm_lex.specs.Pieces.{side_reading}
use Rattle.mm_lex.specs.Between.{side}
use Rattle.mm_lex.proofs.PiecesLaw.{not_some_is_none, append_reading_token, append_reading_opening}
use Rattle.mm_lex.proofs.PiecesLaw.{append_reading_closing, append_reading_comment}
use Rattle.mm_lex.proofs.PiecesLaw.{append_reading_faulty}
use Rattle.mm_lex.proofs.modes.ModeReading.read_word.Goals as goal

pub returns-in_ok-push-in-Token : goal.returns-in_ok-push-in-Token
returns-in_ok-push-in-Token g c p =
    rw c.in_ok-push-in-Token.ensures.items
    (sym (append_reading_token c.args.text.now (side_reading p (side c.args.self.now)) c.args.word _
    (not_some_is_none _ (sym c.is_some.ensures ∙ c.if-is_some.false))
    (c.is_open-in_comment.ensures p)
    (c.in-Token.ensures ∙ ap (role_of c.is_open-in_comment.result) c.bytes-bytes.ensures)))

pub returns-in-Opening : goal.returns-in-Opening
returns-in-Opening g c p =
    sym (append_reading_opening c.args.text.now
    (side_reading p (side c.args.self.now)) c.args.word _
    (not_some_is_none _ (sym c.is_some.ensures ∙ c.if-is_some.false))
    (c.is_open-in_comment.ensures p)
    (c.in-Opening.ensures ∙ ap (role_of c.is_open-in_comment.result) c.bytes-bytes.ensures))

pub returns-in-Closing : goal.returns-in-Closing
returns-in-Closing g c p =
    sym (append_reading_closing c.args.text.now
    (side_reading p (side c.args.self.now)) c.args.word _
    (not_some_is_none _ (sym c.is_some.ensures ∙ c.if-is_some.false))
    (c.is_open-in_comment.ensures p)
    (c.in-Closing.ensures ∙ ap (role_of c.is_open-in_comment.result) c.bytes-bytes.ensures))

pub returns-in-Comment : goal.returns-in-Comment
returns-in-Comment g c p =
    sym (append_reading_comment c.args.text.now
    (side_reading p (side c.args.self.now)) c.args.word _
    (not_some_is_none _ (sym c.is_some.ensures ∙ c.if-is_some.false))
    (c.is_open-in_comment.ensures p)
    (c.in-Comment.ensures ∙ ap (role_of c.is_open-in_comment.result) c.bytes-bytes.ensures))

pub returns-in-Faulty : goal.returns-in-Faulty
returns-in-Faulty g c p =
    rw (c.word_fault.ensures
    ∙ ap (fault_of c.is_open-in_comment.result c.args.word.start) c.bytes-bytes.ensures)
    (sym (append_reading_faulty c.args.text.now
    (side_reading p (side c.args.self.now)) c.args.word _
    (not_some_is_none _ (sym c.is_some.ensures ∙ c.if-is_some.false))
    (c.is_open-in_comment.ensures p)
    (c.in-Faulty.ensures ∙ ap (role_of c.is_open-in_comment.result) c.bytes-bytes.ensures)))
