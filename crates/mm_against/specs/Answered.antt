-- What is written of two texts: what a comparison writes; and where the report on NEW was requested
-- as well, this report behind the differences.
use Rattle.std.specs.Prelude.{◌≡◌, ℕ, Bool, true, false, ◌++◌, List, take, codes, length, Option}
use Rattle.std.specs.Prelude.{◌⊎◌}
use Rattle.std.specs.Io.KnownBytes.{Appends, Keeps}
use Rattle.mm_spec.specs.Ends.{Gave}
use Rattle.mm_spec.specs.Report.{refusal}
use Rattle.mm_spec.specs.Request.{Request}
use Rattle.mm_spec.specs.Lexed.{lexed_of}
use Rattle.mm_spec.specs.Output.{FirstFault, IsOutput}
use Rattle.mm_spec.specs.Comparison.{IsComparison}
use Rattle.mm_spec.specs.ComparisonEnds.{IsSound, WroteComparison}
use Rattle.mm_spec.specs.declared.Fault.{Fault}
use Rattle.mm_spec.specs.declared.ComparisonEnd.{ComparisonEnd}
use Rattle.mm_spec.specs.declared.ComparisonEnd.TheVariants.{Compared, ReadFailed, WriteFailed}
use Rattle.mm_spec.specs.declared.ComparisonEnd.TheVariants.{NoMemory}

-- The output for two texts. Without the flag it is their comparison. With the flag it is the refusal
-- of OLD for its first fault, after the word `old`; or if it has none, that of NEW after the word
-- `new`; or if neither has a fault, their comparison, and behind it the output of NEW alone.
abbrev pub IsAnswer : (and_report : Bool) → (old new : List ℕ) → Request → List ℕ → Type 0
IsAnswer false old new request bytes = IsComparison old new request bytes
IsAnswer true old new request bytes =
    ((f : Fault) × FirstFault (length old) (lexed_of old) request.with_open f
    × (bytes ≡ codes "old " ++ refusal old f))
    ⊎ (IsSound old request
    × (((f : Fault) × FirstFault (length new) (lexed_of new) request.with_open f
    × (bytes ≡ codes "new " ++ refusal new f))
    ⊎ (IsSound new request
    × ((differences : List ℕ) × (report : List ℕ) × IsComparison old new request differences
    × IsOutput new request report × (bytes ≡ differences ++ report)))))

-- What was written for two texts that were read. Without the flag it is as in a comparison. With the
-- flag so are refusals and want of memory, and otherwise their output was written, or a prefix of it.
abbrev pub WroteAnswer : (and_report : Bool) → ComparisonEnd → (old new : List ℕ) → Request
    → (written_before written_after : Option (List ℕ)) → Type 0
WroteAnswer false end old new request written_before written_after =
    WroteComparison end old new request written_before written_after
WroteAnswer true Compared old new request written_before written_after =
    IsSound old request × IsSound new request
    × ((bytes : List ℕ) × IsAnswer true old new request bytes
    × Appends written_before written_after bytes)
WroteAnswer true WriteFailed old new request written_before written_after =
    (bytes : List ℕ) × (k : ℕ) × IsAnswer true old new request bytes
    × Appends written_before written_after (take k bytes)
WroteAnswer true end old new request written_before written_after =
    WroteComparison end old new request written_before written_after

-- The bytes written are those for the two texts that were read. If reading failed or memory ran
-- out, nothing was written.
abbrev pub EndsAnswer : (and_report : Bool) → ComparisonEnd → Request
    → (old_before old_after new_before new_after : Option (List ℕ))
    → (written_before written_after : Option (List ℕ)) → Type 0
EndsAnswer and_report ReadFailed request old_before old_after new_before new_after written_before
    written_after =
    Keeps written_before written_after
EndsAnswer and_report NoMemory request old_before old_after new_before new_after written_before
    written_after =
    Keeps written_before written_after
EndsAnswer and_report end request old_before old_after new_before new_after written_before
    written_after =
    (old : List ℕ) × (new : List ℕ) × Gave old_before old_after old × Gave new_before new_after new
    × WroteAnswer and_report end old new request written_before written_after
