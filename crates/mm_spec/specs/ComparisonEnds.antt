-- How a comparison of two texts ends: what was read and written, for each answer. `Ends` of
-- `mm_spec` with two texts in place of one.
use Rattle.std.specs.Prelude.{ℕ, ◌++◌, List, length, take, codes, Option}
use Rattle.std.specs.Io.KnownBytes.{Appends, Keeps}
use Rattle.mm_spec.specs.Ends.{Gave}
use Rattle.mm_spec.specs.Report.{refusal}
use Rattle.mm_spec.specs.Request.{Request}
use Rattle.mm_spec.specs.Statement.{Statement}
use Rattle.mm_spec.specs.Lexed.{lexed_of}
use Rattle.mm_spec.specs.Output.{FirstFault, HasNoFault}
use Rattle.mm_spec.specs.Comparison.{IsComparison}
use Rattle.mm_spec.specs.declared.ComparisonEnd.{ComparisonEnd}
use Rattle.mm_spec.specs.declared.ComparisonEnd.TheVariants.{Compared, OldRefused}
use Rattle.mm_spec.specs.declared.ComparisonEnd.TheVariants.{NewRefused, ReadFailed}
use Rattle.mm_spec.specs.declared.ComparisonEnd.TheVariants.{WriteFailed, NoMemory}

-- the whole text is read without a fault, and all theorems are valid
abbrev pub IsSound : List ℕ → Request → Type 0
IsSound text request =
    (db : List Statement) × HasNoFault (length text) (lexed_of text) request.with_open db

-- what was written for two texts that were read
abbrev pub WroteComparison : ComparisonEnd → (old new : List ℕ) → Request
    → (written_before written_after : Option (List ℕ)) → Type 0
WroteComparison Compared old new request written_before written_after =
    IsSound old request × IsSound new request
    × ((bytes : List ℕ) × IsComparison old new request bytes
    × Appends written_before written_after bytes)
WroteComparison (OldRefused f) old new request written_before written_after =
    FirstFault (length old) (lexed_of old) request.with_open f
    × Appends written_before written_after (codes "old " ++ refusal old f)
WroteComparison (NewRefused f) old new request written_before written_after =
    IsSound old request × FirstFault (length new) (lexed_of new) request.with_open f
    × Appends written_before written_after (codes "new " ++ refusal new f)
WroteComparison WriteFailed old new request written_before written_after =
    (bytes : List ℕ) × (k : ℕ) × IsComparison old new request bytes
    × Appends written_before written_after (take k bytes)
WroteComparison ReadFailed old new request written_before written_after = ⊥
WroteComparison NoMemory old new request written_before written_after =
    Keeps written_before written_after

-- The bytes written are those for the two texts that were read. If reading failed or memory ran
-- out, nothing was written.
abbrev pub EndsComparison : ComparisonEnd → Request
    → (old_before old_after new_before new_after : Option (List ℕ))
    → (written_before written_after : Option (List ℕ)) → Type 0
EndsComparison ReadFailed request old_before old_after new_before new_after written_before
    written_after =
    Keeps written_before written_after
EndsComparison NoMemory request old_before old_after new_before new_after written_before
    written_after =
    Keeps written_before written_after
EndsComparison end request old_before old_after new_before new_after written_before written_after =
    (old : List ℕ) × (new : List ℕ) × Gave old_before old_after old × Gave new_before new_after new
    × WroteComparison end old new request written_before written_after
