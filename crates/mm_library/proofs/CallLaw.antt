-- How a call ends, put together from its parts.
use Rattle.std.proofs.Common.{◌≡◌, ◌∙◌, ℕ, List, ◌≤◌, Bool, true, false, drop, length, take, nat_lt}
use Rattle.std.proofs.Common.{if◌then◌else◌, refl, sym, ap}
use Rattle.std.proofs.lemmas.Bool.{ltb-true, ltb-false}
use Rattle.mm_spec.specs.Request.{Request}
use Rattle.mm_library.specs.Calls.{Asked, Asks, Call, CallEnds, HasVerdict, Refuses, HasOutput}
use Rattle.mm_library.specs.Calls.{IsOutputOf, WritingEnds}
use Rattle.mm_library.specs.declared.status.Status.{Status}
use Rattle.mm_library.specs.declared.status.Status.TheVariants.{Accepted, Refused, TypecodeNotUtf8}
use Rattle.mm_library.specs.declared.status.Status.TheVariants.{OutTooShort, RoomTooSmall}
use Rattle.mm_library.specs.declared.status.Status.TheVariants.{NoSuchRequest}

-- the status of an output that is at the front of `out`: the verdict, if it has found a place
pub writing_ends : (verdict : Status) (request : Request) (asked : Asked) (len : ℕ)
    (before out : List ℕ) → HasVerdict verdict asked request.with_open
    → HasOutput asked request len before out
    → WritingEnds (if nat_lt (length out) len then OutTooShort else verdict) request asked len
    before out
writing_ends verdict request asked len before out has_verdict has_output =
    status_ends (nat_lt (length out) len) refl
  where
    verdict_ends : (v : Status) → HasVerdict v asked request.with_open → len ≤ length out
        → WritingEnds v request asked len before out
    verdict_ends Accepted has_verdict len_le_length = (has_verdict, has_output, len_le_length)
    verdict_ends Refused has_verdict len_le_length = (has_verdict, has_output, len_le_length)
    verdict_ends TypecodeNotUtf8 has_verdict len_le_length = absurd has_verdict
    verdict_ends OutTooShort has_verdict len_le_length = absurd has_verdict
    verdict_ends RoomTooSmall has_verdict len_le_length = absurd has_verdict
    verdict_ends NoSuchRequest has_verdict len_le_length = absurd has_verdict

    status_ends : (b : Bool) → nat_lt (length out) len ≡ b
        → WritingEnds (if b then OutTooShort else verdict) request asked len before out
    status_ends true out_is_shorter = (has_output, ltb-true (length out) len out_is_shorter)
    status_ends false out_is_not_shorter =
        verdict_ends verdict has_verdict (ltb-false (length out) len out_is_not_shorter)

-- what was written is the output
pub has_output : (request : Request) (asked : Asked) (before out bytes written : List ℕ) (len : ℕ)
    → IsOutputOf asked request bytes → written ≡ bytes → len ≡ length written
    → take len out ≡ take (length out) written → drop len out ≡ drop len before
    → HasOutput asked request len before out
has_output request asked before out bytes written len is_output written_is len_is is_at_front
    rest_stays =
    record {
      output = bytes;
      is_output = is_output;
      length_is = len_is ∙ ap length written_is;
      is_at_front =
          ap (λ (n : ℕ). take n out) (sym (len_is ∙ ap length written_is)) ∙ is_at_front
          ∙ ap (take (length out)) written_is;
      rest_stays = rest_stays;
    }

-- a call that asks for a request ends as it ended to write the output of that request
pub ends_if_asked : (status : Status) (call : Call) (request : Request) (asked : Asked) (len : ℕ)
    (before out : List ℕ) → Asks call request → WritingEnds status request asked len before out
    → CallEnds status call asked len before out
ends_if_asked Accepted call request asked len before out asks written = (request, asks, written)
ends_if_asked Refused call request asked len before out asks written = (request, asks, written)
ends_if_asked TypecodeNotUtf8 call request asked len before out asks written = absurd written
ends_if_asked OutTooShort call request asked len before out asks written = (request, asks, written)
ends_if_asked RoomTooSmall call request asked len before out asks written = (request, asks, written)
ends_if_asked NoSuchRequest call request asked len before out asks written = absurd written

-- a call that asks for no request ends with the status that says why, and writes nothing
pub ends_if_refused : (status : Status) (call : Call) (asked : Asked) (len : ℕ)
    (before out : List ℕ) → Refuses status call → len ≡ 0 → out ≡ before
    → CallEnds status call asked len before out
ends_if_refused Accepted call asked len before out refuses len_is_0 out_stays = absurd refuses
ends_if_refused Refused call asked len before out refuses len_is_0 out_stays = absurd refuses
ends_if_refused TypecodeNotUtf8 call asked len before out refuses len_is_0 out_stays =
    (refuses, len_is_0, out_stays)
ends_if_refused OutTooShort call asked len before out refuses len_is_0 out_stays = absurd refuses
ends_if_refused RoomTooSmall call asked len before out refuses len_is_0 out_stays = absurd refuses
ends_if_refused NoSuchRequest call asked len before out refuses len_is_0 out_stays =
    (refuses, len_is_0, out_stays)
