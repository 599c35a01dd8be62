use Rattle.std.proofs.Common.{refl}
use Rattle.std.proofs.lemmas.Result.{MatchResult-at_ok, MatchResult-at_err}
use Rattle.mm_library.specs.Calls.{Asks, Refuses}
use Rattle.mm_library.specs.Texts.{asked_of}
use Rattle.mm_library.proofs.CallLaw.{ends_if_asked, ends_if_refused}
use Rattle.mm_library.proofs.in_room.output_if_asked.Goals as goal

pub returns-in-Ok-clause-call_ends : goal.returns-in-Ok-clause-call_ends
returns-in-Ok-clause-call_ends c =
    λ call answer. ends_if_asked c.output_in_room.result.0 call c.in-Ok.request
    (asked_of c.args.texts) c.output_in_room.result.1 c.args.out.now
    c.output_in_room.new.out
    (MatchResult-at_ok (Asks call) (λ s. Refuses s call) c.in-Ok.request c.in-Ok.is answer)
    c.output_in_room.ensures.writes_output

pub returns-in-Err-clause-call_ends : goal.returns-in-Err-clause-call_ends
returns-in-Err-clause-call_ends c =
    λ call answer. ends_if_refused c.in-Err.status call (asked_of c.args.texts) 0
    c.args.out.now c.args.out.now
    (MatchResult-at_err (Asks call) (λ s. Refuses s call) c.in-Err.status c.in-Err.is answer)
    refl refl
