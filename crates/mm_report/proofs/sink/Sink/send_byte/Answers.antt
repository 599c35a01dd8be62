use Rattle.std.proofs.Common.{inl, inr, arith}
use Rattle.std.proofs.lemmas.Bool.{cases_Bool}
use Rattle.mm_report.proofs.SentLaw.{sent_both, sent_if_held, sent_after_failure}
use Rattle.mm_report.proofs.sink.Sink.send_byte.Goals as goal

pub returns-then-not-is_full : goal.returns-then-not-is_full
returns-then-not-is_full g c =
    sent_both c.make_room.ensures.sent
    (sent_if_held c.hold_byte.ensures.is_held c.hold_byte.ensures.failed_unchanged)

pub returns-else-not-is_full : goal.returns-else-not-is_full
returns-else-not-is_full g c =
    sent_both c.make_room.ensures.sent
    (sent_after_failure (elim (cases_Bool c.make_room.new.self.failed) [
      | inl failed ↦ failed
      | inr not_failed ↦
          let room_left = c.make_room.ensures.has_room not_failed in
          let no_room = c.if-not-is_full.ensures.has_no_room in
          absurd (omega (arith, room_left, no_room))
    ]))
