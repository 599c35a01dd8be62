-- An iteration of the code is a step of the table in `mm_spec`: the prover finds it with
-- `between_with_one_more` (`BetweenLaw.antt`). The loop of `next_statement` keeps `Leads`: the
-- tokens from `from` on give what those from `token_index` on give, which the prover finds too.
-- Over words without `$` it goes on by `plain_words_are_passed_up_to` (`PassedLaw.antt`).
-- `IsBlocks` is kept for one more statement by `blocks_after_other`, `blocks_after_opening` and
-- `blocks_after_closing` (`BlocksLaw.antt`); `mm_scope` cites these. `active_test_is_activity`
-- (`ActiveLaw.antt`) shows that activity is a comparison; `mm_database` cites it.
pub mod ActiveLaw
pub mod ActiveWordsLaw
pub mod BlocksLaw
pub mod FaultlessLaw
pub mod ProgressLaw
pub mod PassedLaw
pub mod ResultsLaw
pub mod StatementsLaw
pub mod TokensLaw
pub mod BetweenLaw
