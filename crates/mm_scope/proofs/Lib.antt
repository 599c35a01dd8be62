-- The loop of `read_outlines` keeps three things: `IsReadTo` (the lawful statements lead to the
-- token `from`), `AreOutlinesFrom` (the outlines that are left are found from there on;
-- `OutlinesLaw.antt`) and `IsReadSoFar` (names, blocks and numbers are theirs). `scope_knows_names`
-- (`KnowsLaw.antt`) says that what has been read is what the judge needs.
-- `lesser_of_least_is_least` and `at_each_between_push` (`JudgeLaw.antt`) show that the code's
-- fault is the least one, rule by rule and symbol by symbol. Each symbol's number was found before
-- by all names (`NumberingLaw.antt`): `next_are_numbers` says that they begin with the names so
-- far, and `known_at_number` that what stands at the number is what is known of the word.
-- `knows_after_statement` (`AddLaw.antt`) adds a lawful statement,
-- `declared_names_are_symbol_names` and `formulas_with_statement` (`NumberedLaw.antt`) its symbols,
-- whose numbers are its formula (`numbers_are_formula`). `is_read_to_with_statement`
-- (`ReadLaw.antt`) goes on; `read_unlawful`, `read_stopped` and `read_ended` end in `IsRead`.
-- `found_at_other_depth` (`DepthLaw.antt`) says that a statement is found however many blocks are
-- open, if the block is open that it closes. So the statements of a stretch that is read by itself
-- are those that are read behind the stretches before it (`StretchesLaw.antt`).
pub mod AddLaw
pub mod BoundsLaw
pub mod DeclaredLaw
pub mod DepthLaw
pub mod JudgeLaw
pub mod WordEntryLaw
pub mod KnowsLaw
pub mod LabelsLaw
pub mod LatestLaw
pub mod NumberedLaw
pub mod NumberingLaw
pub mod OpenLaw
pub mod OutlinesLaw
pub mod ReadLaw
pub mod StretchesLaw
pub mod TypedLaw
