-- `read_all` keeps that the text so far was taken from the reader (`Consumes`). `judged_text` makes
-- of what reading and checking found the first fault, or a database without one; `judge_alone` ends
-- with it. `write_judged`, with which every run ends, then calls what writes a refusal or a report.
-- The rows are those of the definitions by `rows_are` (`ReportLaw.antt`), and those of citations by
-- `citing_rows_are` (`CitationsLaw.antt`). `is_output` (`OutputLaw.antt`) then gives `IsOutput` of
-- the text, with open theorems as they count. `ends_of_answers` (`EndsLaw.antt`) turns `Wrote` of
-- the text into `Ends`, the contract of `run`.
pub mod ListLaw
pub mod OutputLaw
pub mod CitationsLaw
pub mod ReportLaw
pub mod EndsLaw
