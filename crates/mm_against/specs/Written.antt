-- How the differences between two databases were written.
use Rattle.std.specs.Prelude.{ℕ, List, take, Option}
use Rattle.std.specs.Io.KnownBytes.{Appends, Keeps}
use Rattle.mm_spec.specs.Request.{Request}
use Rattle.mm_spec.specs.Comparison.{Side, AreDifferences}
use Rattle.mm_spec.specs.declared.ComparisonEnd.{ComparisonEnd}
use Rattle.mm_spec.specs.declared.ComparisonEnd.TheVariants.{Compared, WriteFailed, NoMemory}

-- `Compared`: the differences were written. `WriteFailed`: a prefix of them was. `NoMemory`:
-- nothing was. It doesn't end otherwise.
abbrev pub WroteDifferences : ComparisonEnd → Request → (old new : Side)
    → (written_before written_after : Option (List ℕ)) → Type 0
WroteDifferences Compared request old new written_before written_after =
    (bytes : List ℕ) × AreDifferences request old new bytes
    × Appends written_before written_after bytes
WroteDifferences WriteFailed request old new written_before written_after =
    (bytes : List ℕ) × (k : ℕ) × AreDifferences request old new bytes
    × Appends written_before written_after (take k bytes)
WroteDifferences NoMemory request old new written_before written_after =
    Keeps written_before written_after
WroteDifferences _ request old new written_before written_after = ⊥
