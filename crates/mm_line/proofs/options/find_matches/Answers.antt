use Rattle.mm_line.proofs.LineLaw.{parsed_matches_are_found, refusal_is_line_refusal}
use Rattle.mm_line.proofs.LineLaw.{command_app_is_simple_and_free}
use Rattle.mm_line.proofs.options.find_matches.Goals as goal

pub returns-in-Ok-clause-are_found : goal.returns-in-Ok-clause-are_found
returns-in-Ok-clause-are_found g c =
    let command_is_ours = c.in_ok-command.ensures _ c.requires in
    parsed_matches_are_found _ c.in-Ok.matches _ command_is_ours c.in-Ok.ensures.parsed
    (c.in-Ok.ensures.kinds (command_app_is_simple_and_free _ _ command_is_ours))
    c.in-Ok.ensures.matches

pub returns-in_ok-refusal_of-in-Err-clause-is_refused :
    goal.returns-in_ok-refusal_of-in-Err-clause-is_refused
returns-in_ok-refusal_of-in-Err-clause-is_refused g c =
    let command_is_ours = c.in_ok-command.ensures _ c.requires in
    refusal_is_line_refusal _ _ c.in-Err.error _ command_is_ours c.in-Err.ensures.passes
    (c.in-Err.ensures.kinds (command_app_is_simple_and_free _ _ command_is_ours))
    c.in_ok-refusal_of-in-Err.ensures
