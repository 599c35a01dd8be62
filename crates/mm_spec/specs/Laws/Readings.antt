-- A reading in parts: the words up to a place, and from there on.
use Rattle.std.specs.Prelude.{ℕ, List, [], Option, Some, None}
use Rattle.mm_spec.specs.Readings.{Reading, reading, with_tokens}
use Rattle.mm_spec.specs.declared.Word.{Word}

-- the reading of no words; `open_comment` is the place of the comment that is open, if one is
abbrev pub start : Option ℕ → Reading
start open_comment = record { tokens = []; fault = None; open_comment = open_comment }

-- a reading continued with further words, if it has no fault
abbrev pub append_reading : List ℕ → Reading → List Word → Reading
append_reading text r ws =
    elim r.fault [ None ↦ with_tokens r.tokens (reading text r.open_comment ws) | Some f ↦ r ]
