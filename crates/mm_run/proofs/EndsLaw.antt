-- The end of a run is that of the text that was read.
use Rattle.std.proofs.Common.{ℕ, List, Option}
use Rattle.mm_spec.specs.Request.{Request}
use Rattle.mm_spec.specs.Ends.{Gave, Wrote, Ends}
use Rattle.mm_spec.specs.declared.RunEnd.{RunEnd}
use Rattle.mm_spec.specs.declared.RunEnd.TheVariants.{Accepted, Refused, ReadFailed, WriteFailed}
use Rattle.mm_spec.specs.declared.RunEnd.TheVariants.{NoMemory}

pub ends_of_answers : (end : RunEnd) (text : List ℕ) (request : Request)
    → (input_before input_after output_before output_after : Option (List ℕ))
    → Gave input_before input_after text → Wrote end text request output_before output_after
    → Ends end request input_before input_after output_before output_after
ends_of_answers Accepted text request input_before input_after output_before output_after gave_text
    answers = (text, gave_text, answers)
ends_of_answers (Refused f) text request input_before input_after output_before output_after
    gave_text answers = (text, gave_text, answers)
ends_of_answers ReadFailed text request input_before input_after output_before output_after
    gave_text answers = absurd answers
ends_of_answers WriteFailed text request input_before input_after output_before output_after
    gave_text answers = (text, gave_text, answers)
ends_of_answers NoMemory text request input_before input_after output_before output_after
    gave_text answers = answers
