-- What was written of two databases is what was to be written of their texts.
use Rattle.std.proofs.Common.{◌≡◌, ℕ, zero, suc, ◌++◌, List, [], ◌∷◌, length, take, codes}
use Rattle.std.proofs.Common.{refl, sym, ap, ap₂, subst, inl, inr, Option, Bool, true, false}
use Rattle.std.specs.Io.KnownBytes.{Appends}
use Rattle.mm_spec.specs.Request.{Request}
use Rattle.mm_spec.specs.Report.{refusal}
use Rattle.mm_spec.specs.Lexed.{lexed_of}
use Rattle.mm_spec.specs.Statement.{Statement}
use Rattle.mm_spec.specs.Output.{FirstFault, HasNoFault, IsOutput, is_open_at}
use Rattle.mm_spec.specs.Comparison.{Side, side, counted, AreDifferences, IsComparison}
use Rattle.mm_spec.specs.ComparisonEnds.{IsSound, WroteComparison}
use Rattle.mm_spec.specs.Ends.{Gave}
use Rattle.mm_spec.specs.declared.Fault.{Fault}
use Rattle.mm_spec.specs.declared.ComparisonEnd.{ComparisonEnd}
use Rattle.mm_spec.specs.declared.ComparisonEnd.TheVariants.{Compared, OldRefused, NewRefused}
use Rattle.mm_spec.specs.declared.ComparisonEnd.TheVariants.{ReadFailed, WriteFailed, NoMemory}
use Rattle.mm_database.specs.Database.{Contents}
use Rattle.mm_cites.specs.Citing.{Citing}
use Rattle.mm_compare.specs.Sides.{side_of}
use Rattle.mm_run.specs.Judging.{IsCounted, IsFaultless}
use Rattle.mm_against.specs.Answered.{IsAnswer, WroteAnswer, EndsAnswer}
use Rattle.mm_against.specs.Written.{WroteDifferences}

-- a database is compared with its statements as they count
pub side_is_counted : (d : Contents) (request : Request) → IsCounted request.with_open d
    → side_of d ≡ counted d.read request
side_is_counted d request is_counted =
    ap₂ (λ (db : List Statement) (w : Bool). side db (is_open_at d.read w))
    is_counted.statements_are is_counted.flag_is

-- the differences between two databases without a fault are the comparison of their texts
pub differences_are_comparison : (request : Request) (old new : Contents)
    (old_citing new_citing : Citing) (bytes : List ℕ)
    → IsFaultless request.essential request.with_open old old_citing
    → IsFaultless request.essential request.with_open new new_citing
    → AreDifferences request (side_of old) (side_of new) bytes
    → IsComparison old.text new.text request bytes
differences_are_comparison request old new old_citing new_citing bytes old_is new_is are =
    inr (
      old.read,
      old_is.has_no_fault,
      inr (
        new.read,
        new_is.has_no_fault,
        subst (λ (s : Side). AreDifferences request s (counted new.read request) bytes)
            (side_is_counted old request old_is.is_counted)
            (subst (λ (s : Side). AreDifferences request (side_of old) s bytes)
            (side_is_counted new request new_is.is_counted) are),
      ),
    )

pub wrote_comparison : (end : ComparisonEnd) (request : Request) (old new : Contents)
    (old_citing new_citing : Citing) (before after : Option (List ℕ))
    → IsFaultless request.essential request.with_open old old_citing
    → IsFaultless request.essential request.with_open new new_citing
    → WroteDifferences end request (side_of old) (side_of new) before after
    → WroteComparison end old.text new.text request before after
wrote_comparison Compared request old new old_citing new_citing before after old_is new_is wrote = (
  (old.read, old_is.has_no_fault),
  (new.read, new_is.has_no_fault),
  (
    wrote.0,
    differences_are_comparison request old new old_citing new_citing wrote.0 old_is new_is wrote.1,
    wrote.2,
  ),
)
wrote_comparison WriteFailed request old new old_citing new_citing before after old_is new_is
    wrote = (
      wrote.0,
      wrote.1,
      differences_are_comparison request old new old_citing new_citing wrote.0 old_is new_is
          wrote.2,
      wrote.3,
    )
wrote_comparison NoMemory request old new old_citing new_citing before after old_is new_is wrote =
    wrote
wrote_comparison (OldRefused f) request old new old_citing new_citing before after old_is new_is
    wrote =
    absurd wrote
wrote_comparison (NewRefused f) request old new old_citing new_citing before after old_is new_is
    wrote =
    absurd wrote
wrote_comparison ReadFailed request old new old_citing new_citing before after old_is new_is
    wrote =
    absurd wrote

-- the refusal of OLD was written, or a prefix of it, with the flag or without it
pub old_refused : (and_report : Bool) (old new : List ℕ) (request : Request) (f : Fault)
    (before after : Option (List ℕ))
    → FirstFault (length old) (lexed_of old) request.with_open f
    → Appends before after (codes "old " ++ refusal old f)
    → WroteAnswer and_report (OldRefused f) old new request before after
old_refused true old new request f before after is_first appended = (is_first, appended)
old_refused false old new request f before after is_first appended = (is_first, appended)

pub old_refusal_begun : (and_report : Bool) (old new : List ℕ) (request : Request) (f : Fault)
    (k : ℕ) (before after : Option (List ℕ))
    → FirstFault (length old) (lexed_of old) request.with_open f
    → Appends before after (take k (codes "old " ++ refusal old f))
    → WroteAnswer and_report WriteFailed old new request before after
old_refusal_begun true old new request f k before after is_first appended =
    (codes "old " ++ refusal old f, k, inl (f, is_first, refl), appended)
old_refusal_begun false old new request f k before after is_first appended =
    (codes "old " ++ refusal old f, k, inl (f, is_first, refl), appended)

-- the same of NEW, where OLD has no fault
pub new_refused : (and_report : Bool) (old new : List ℕ) (request : Request) (f : Fault)
    (before after : Option (List ℕ)) → IsSound old request
    → FirstFault (length new) (lexed_of new) request.with_open f
    → Appends before after (codes "new " ++ refusal new f)
    → WroteAnswer and_report (NewRefused f) old new request before after
new_refused true old new request f before after old_is_sound is_first appended =
    (old_is_sound, is_first, appended)
new_refused false old new request f before after old_is_sound is_first appended =
    (old_is_sound, is_first, appended)

pub new_refusal_begun : (and_report : Bool) (old new : List ℕ) (request : Request) (f : Fault)
    (k : ℕ) (before after : Option (List ℕ)) → IsSound old request
    → FirstFault (length new) (lexed_of new) request.with_open f
    → Appends before after (take k (codes "new " ++ refusal new f))
    → WroteAnswer and_report WriteFailed old new request before after
new_refusal_begun true old new request f k before after old_is_sound is_first appended =
    (codes "new " ++ refusal new f, k, inr (old_is_sound, inl (f, is_first, refl)), appended)
new_refusal_begun false old new request f k before after old_is_sound is_first appended = (
  codes "new " ++ refusal new f,
  k,
  inr (old_is_sound.0, old_is_sound.1, inl (f, is_first, refl)),
  appended,
)

-- what is written of two texts ends as that of the texts that were read
pub ends_of_answer : (and_report : Bool) (end : ComparisonEnd) (old new : List ℕ)
    (request : Request) (old_before old_after new_before new_after before after : Option (List ℕ))
    → Gave old_before old_after old → Gave new_before new_after new
    → WroteAnswer and_report end old new request before after
    → EndsAnswer and_report end request old_before old_after new_before new_after before after
ends_of_answer and_report Compared old new request old_before old_after new_before new_after before
    after gave_old gave_new wrote =
    (old, new, gave_old, gave_new, wrote)
ends_of_answer and_report (OldRefused f) old new request old_before old_after new_before new_after
    before after gave_old gave_new wrote =
    (old, new, gave_old, gave_new, wrote)
ends_of_answer and_report (NewRefused f) old new request old_before old_after new_before new_after
    before after gave_old gave_new wrote =
    (old, new, gave_old, gave_new, wrote)
ends_of_answer true ReadFailed old new request old_before old_after new_before new_after before
    after gave_old gave_new wrote =
    absurd wrote
ends_of_answer false ReadFailed old new request old_before old_after new_before new_after before
    after gave_old gave_new wrote =
    absurd wrote
ends_of_answer and_report WriteFailed old new request old_before old_after new_before new_after
    before after gave_old gave_new wrote =
    (old, new, gave_old, gave_new, wrote)
ends_of_answer true NoMemory old new request old_before old_after new_before new_after before after
    gave_old gave_new wrote =
    wrote
ends_of_answer false NoMemory old new request old_before old_after new_before new_after before
    after gave_old gave_new wrote =
    wrote

-- ---- with the report on NEW

-- what begins with a list begins as that list does
begins_as : (k : ℕ) (xs ys : List ℕ) → (j : ℕ) × (take j (xs ++ ys) ≡ take k xs)
begins_as zero xs ys = (0, refl)
begins_as (suc k) [] ys = (0, refl)
begins_as (suc k) (x ∷ xs) ys =
    let rest = begins_as k xs ys in (suc rest.0, ap (λ (l : List ℕ). x ∷ l) rest.1)

-- what is begun of a list behind another one begins both
pub begun_behind : (xs ys : List ℕ) (k : ℕ) → (j : ℕ) × (take j (xs ++ ys) ≡ xs ++ take k ys)
begun_behind [] ys k = (k, refl)
begun_behind (x ∷ xs) ys k =
    let rest = begun_behind xs ys k in (suc rest.0, ap (λ (l : List ℕ). x ∷ l) rest.1)

-- a comparison begins the output that has the report behind it
comparison_begins : (old new : List ℕ) (request : Request) (bytes report : List ℕ) (k : ℕ)
    (before after : Option (List ℕ)) → IsSound new request → IsOutput new request report
    → IsComparison old new request bytes → Appends before after (take k bytes)
    → WroteAnswer true WriteFailed old new request before after
comparison_begins old new request bytes report k before after new_is_sound is_report (inl refused)
    appended =
    (bytes, k, inl refused, appended)
comparison_begins old new request bytes report k before after new_is_sound is_report
    (inr (db, no_fault, inl refused)) appended =
    (bytes, k, inr ((db, no_fault), inl refused), appended)
comparison_begins old new request bytes report k before after new_is_sound is_report
    (inr (db, no_fault, inr compared)) appended =
    let begun = begins_as k bytes report in (
      bytes ++ report,
      begun.0,
      inr (
        (db, no_fault),
        inr (
          new_is_sound,
          (bytes, report, inr (db, no_fault, inr compared), is_report, refl),
        ),
      ),
      subst (Appends before after) (sym begun.1) appended,
    )

-- a comparison that didn't come to its end is one with the report behind it that didn't
pub comparison_broken_off : (end : ComparisonEnd) (request : Request) (old new : List ℕ)
    (report : List ℕ) (before after : Option (List ℕ)) → (end ≡ Compared → ⊥)
    → IsSound new request → IsOutput new request report
    → WroteComparison end old new request before after
    → WroteAnswer true end old new request before after
comparison_broken_off Compared request old new report before after not_whole new_is_sound is_report
    wrote = absurd (not_whole refl)
comparison_broken_off WriteFailed request old new report before after not_whole new_is_sound
    is_report wrote =
    comparison_begins old new request wrote.0 report wrote.1 before after new_is_sound is_report
    wrote.2 wrote.3
comparison_broken_off NoMemory request old new report before after not_whole new_is_sound is_report
    wrote = wrote
comparison_broken_off (OldRefused f) request old new report before after not_whole new_is_sound
    is_report wrote = wrote
comparison_broken_off (NewRefused f) request old new report before after not_whole new_is_sound
    is_report wrote = wrote
comparison_broken_off ReadFailed request old new report before after not_whole new_is_sound
    is_report wrote = wrote

-- a comparison with the report behind it
pub with_report : (old new : List ℕ) (request : Request) (differences report : List ℕ)
    → IsSound old request → IsSound new request → IsComparison old new request differences
    → IsOutput new request report → IsAnswer true old new request (differences ++ report)
with_report old new request differences report old_is_sound new_is_sound is_comparison is_report =
    inr (
      old_is_sound,
      inr (new_is_sound, (differences, report, is_comparison, is_report, refl)),
    )
