-- `Citations` has the invariant `IsFileOrder`: `new` requires it, and the reading calls promise it.
-- `filtered_range_is_statement_list` (`RisingLaw.antt`) says that a selection from ascending
-- numbers ascends; `mm_work` and `mm_rows` cite it.
pub mod RisingLaw
