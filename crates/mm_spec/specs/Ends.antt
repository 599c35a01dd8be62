-- How a run ends: what was read and written, for each answer (this project's own).
use Rattle.std.specs.Prelude.{◌≡◌, ℕ, ◌+◌, List, length, take, Option, ◌⊎◌}
use Rattle.std.specs.Io.KnownBytes.{Consumes, Appends, Keeps, IsAtEnd}
use Rattle.mm_spec.specs.Limits.{text_limit}
use Rattle.mm_spec.specs.Report.{refusal}
use Rattle.mm_spec.specs.Request.{Request}
use Rattle.mm_spec.specs.Statement.{Statement}
use Rattle.mm_spec.specs.Lexed.{lexed_of}
use Rattle.mm_spec.specs.Output.{IsOutput, FirstFault, HasNoFault}
use Rattle.mm_spec.specs.declared.RunEnd.{RunEnd}
use Rattle.mm_spec.specs.declared.RunEnd.TheVariants.{Accepted, Refused, ReadFailed, WriteFailed}
use Rattle.mm_spec.specs.declared.RunEnd.TheVariants.{NoMemory}

-- the most bytes that are read: one more than a text may have
abbrev pub reading_limit : ℕ
reading_limit = text_limit + 1

-- The reader gave this text, up to its end or up to the limit. What it had to give before and after
-- is known or not.
abbrev pub Gave : (unread_before unread_after : Option (List ℕ)) → List ℕ → Type 0
Gave unread_before unread_after text =
    Consumes unread_before unread_after text
    × (IsAtEnd unread_after ⊎ (length text ≡ reading_limit))

-- What was written for a text that was read. `Accepted`: the text has no fault, and its output was
-- written. `Refused`: the fault is its first one, and the refusal for it was written.
-- `WriteFailed`: a prefix of its output was written. `NoMemory`: nothing was written. `ReadFailed`
-- isn't an answer for such a text. What the writer had taken before and after is known or not.
abbrev pub Wrote : RunEnd → List ℕ → Request → (written_before written_after : Option (List ℕ))
    → Type 0
Wrote Accepted text request written_before written_after =
    ((db : List Statement) × HasNoFault (length text) (lexed_of text) request.with_open db)
    × ((bytes : List ℕ) × IsOutput text request bytes × Appends written_before written_after bytes)
Wrote (Refused f) text request written_before written_after =
    FirstFault (length text) (lexed_of text) request.with_open f
    × IsOutput text request (refusal text f) × Appends written_before written_after (refusal text f)
Wrote WriteFailed text request written_before written_after =
    (bytes : List ℕ) × (k : ℕ) × IsOutput text request bytes
    × Appends written_before written_after (take k bytes)
Wrote ReadFailed text request written_before written_after = ⊥
Wrote NoMemory text request written_before written_after = Keeps written_before written_after

-- The bytes written are those for the text that was read. If reading failed or memory ran out,
-- nothing was written.
abbrev pub Ends : RunEnd → Request → (unread_before unread_after : Option (List ℕ))
    → (written_before written_after : Option (List ℕ)) → Type 0
Ends ReadFailed request unread_before unread_after written_before written_after =
    Keeps written_before written_after
Ends NoMemory request unread_before unread_after written_before written_after =
    Keeps written_before written_after
Ends end request unread_before unread_after written_before written_after =
    (text : List ℕ) × Gave unread_before unread_after text
    × Wrote end text request written_before written_after
