-- What is written for a text above the limit. (This project's own.)
use Rattle.std.specs.Prelude.{◌≡◌, ◌↔◌, ◌<◌, ℕ, List, length, take, codes}
use Rattle.mm_spec.specs.Limits.{text_limit}
use Rattle.mm_spec.specs.Report.{line}
use Rattle.mm_spec.specs.Request.{Request}
use Rattle.mm_spec.specs.Output.{IsOutput}

-- a text above the limit has one output, the same for each: it is refused at its first byte
abbrev pub LongTextsAreRefused : Type 0
LongTextsAreRefused =
    (text : List ℕ) (request : Request) (bytes : List ℕ) → text_limit < length text
    → IsOutput text request bytes ↔ (bytes ≡ line (codes "refused 1:1 E00"))

-- the first n bytes of a text, for an n above the limit, have the output of the text: whatever is
-- behind them
abbrev pub FrontsDecide : Type 0
FrontsDecide =
    (text : List ℕ) (request : Request) (bytes : List ℕ) (n : ℕ) → text_limit < n
    → IsOutput (take n text) request bytes ↔ IsOutput text request bytes
