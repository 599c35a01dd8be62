-- A refusal is what a comparison writes.
use Rattle.std.proofs.Common.{ℕ, ◌++◌, List, length, codes, refl, inl, inr}
use Rattle.mm_spec.specs.Request.{Request}
use Rattle.mm_spec.specs.Report.{refusal}
use Rattle.mm_spec.specs.Lexed.{lexed_of}
use Rattle.mm_spec.specs.Output.{FirstFault}
use Rattle.mm_spec.specs.Comparison.{IsComparison}
use Rattle.mm_spec.specs.ComparisonEnds.{IsSound}
use Rattle.mm_spec.specs.declared.Fault.{Fault}

-- the refusal of OLD is the comparison of its text with any other
pub old_refusal_is_comparison : (old new : List ℕ) (request : Request) (f : Fault)
    → FirstFault (length old) (lexed_of old) request.with_open f
    → IsComparison old new request (codes "old " ++ refusal old f)
old_refusal_is_comparison old new request f is_first = inl (f, is_first, refl)

-- the refusal of NEW is the comparison of its text with one that has no fault
pub new_refusal_is_comparison : (old new : List ℕ) (request : Request) (f : Fault)
    → IsSound old request → FirstFault (length new) (lexed_of new) request.with_open f
    → IsComparison old new request (codes "new " ++ refusal new f)
new_refusal_is_comparison old new request f old_is_sound is_first =
    inr (old_is_sound.0, old_is_sound.1, inl (f, is_first, refl))
