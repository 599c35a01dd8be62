-- The output is written to a `Front`, which knows all bytes that were written to it (`GhostBytes`,
-- whose proofs in separation logic need `GhostBytesLaw.antt`) and keeps as many of them as its
-- slice holds; `put_behind` (`FrontLaw.antt`) is the step of a write. From that, `has_output` says
-- that the slice begins with the output, `writing_ends` that this is how writing ends with the
-- status that was found, and `ends_if_asked` or `ends_if_refused` that so does the call
-- (`CallLaw.antt`).
pub mod GhostBytesLaw
pub mod FrontLaw
pub mod CallLaw
pub mod RefusalLaw
