-- The stretches have all numbers, each in one of them: `first_start_is_zero`, `start_le_next` and
-- `last_start_is_count` of `StretchesLaw.antt`. Callers put together by them what was made of the
-- stretches.
pub mod StretchesLaw
