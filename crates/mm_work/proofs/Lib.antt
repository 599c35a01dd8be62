-- Between two theorems a worker keeps `IsBetweenTheorems`: its seat settled what it found valid,
-- and reported its fault. It begins by `between_at_start`; `drawn_after_claim`, and then
-- `between_after_skip`, `between_after_settle` or `between_after_report`, lead over one theorem,
-- and
-- `unrecorded_drops_after_draw` ends
-- the loop (`WorkersLaw.antt`). `join_all` keeps `AreGathered` by `gathered_of_first` and
-- `gathered_with_next`. After the board's `close`, `floor_is_found_faulty` and `valid_below_floor`
-- (`AllLaw.antt`) lead to
-- `is_first_fault`. If there is no fault, `merge` finds each list by `findings_at_worker` and
-- `list_has_citations`
-- (`PositionsLaw.antt`) and adds it by `with_citations_of_one_more`; `judged_valid` concludes with
-- `all_have_citations`.
-- `is_first_fault`, `with_citations_of_one_more` and `all_have_citations` (`VerifyLaw.antt`) also
-- serve `check_in_order`.
pub mod CitesAsDatabaseLaw
pub mod VerifyLaw
pub mod WorkersLaw
pub mod PositionsLaw
pub mod AllLaw
