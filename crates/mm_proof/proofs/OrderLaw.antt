-- The reading faults of a compressed proof stand in the order of their places.
use Rattle.std.proofs.Common.{rules, ◌≡◌, ◌∙◌, ℕ, suc, ◌+◌, ◌<◌, ◌≤◌, ◌==◌, Bool, true, false, List}
use Rattle.std.proofs.Common.{[], ◌∷◌, ◌++◌, length, flat_map, None, Some, bytes_eq, codes, nat_lt}
use Rattle.std.proofs.Common.{sym, ap, subst, arith, append_assoc, eq-eqb}
use Rattle.std.proofs.lemmas.Grind.{common_steps}
use Rattle.std.specs.List.{AllByRecursion}
use Rattle.std.proofs.Math.Bool.{or-true}
use Rattle.mm_spec.specs.Text.{Token, Bytes, fault}
use Rattle.mm_spec.specs.declared.Fault.{Fault}
use Rattle.mm_spec.specs.declared.Code.{Code}
use Rattle.mm_spec.specs.declared.Code.TheVariants.{OpenBrackets, OpenNumber, MarkBeforeStep}
use Rattle.mm_spec.specs.declared.Code.TheVariants.{NumberTooLarge, IncompleteProof, BadLetter}
use Rattle.mm_spec.specs.Statement.{Statement}
use Rattle.mm_spec.specs.Lawful.{when, faults_at, least, is_before}
use Rattle.mm_spec.specs.Frame.{mandatory_hypotheses}
use Rattle.mm_spec.specs.NormalProof.{proof_label_faults}
use Rattle.mm_spec.specs.CompressedProof.{Compressed, bracketed, with_label, Letter, letters_from}
use Rattle.mm_spec.specs.CompressedProof.{letters_of, Group, is_early_letter, is_last_letter}
use Rattle.mm_spec.specs.CompressedProof.{groups, value, starts_at, group_fault, group_faults}
use Rattle.mm_spec.specs.CompressedProof.{letter_faults, compressed_faults}
use Rattle.mm_proof.proofs.LeastLaw.{all_of_weaker, earlier_is_before, first_is_least}
use Rattle.mm_proof.specs.Letters.{AreInOrder}
use Rattle.mm_proof.specs.Refused.{IsProofRefusal, StartsWith}
use Rattle.mm_proof.specs.declared.refused.ProofRefused.{ProofRefused}
use Rattle.mm_proof.specs.declared.refused.ProofRefused.TheVariants.{Fault as Faulty, Memory}

-- ---- faults in order

-- each fault comes before those after it
abbrev AreSorted : List Fault → Type 0
AreSorted [] = Unit {0}
AreSorted (f ∷ fs) = AllByRecursion (λ (g : Fault). is_before f g ≡ true) fs × AreSorted fs

-- faults in order, from a place up to another
record IsRun (from to : ℕ) (fs : List Fault) : Type 0 where
  from_le_places : AllByRecursion (λ (f : Fault). from ≤ f.at) fs
  places_lt_to : AllByRecursion (λ (f : Fault). f.at < to) fs
  are_sorted : AreSorted fs

-- what holds of all faults of two lists holds of those of both together
all_of_append : (P : Fault → Type 0) (xs ys : List Fault) → AllByRecursion P xs
    → AllByRecursion P ys
    → AllByRecursion P (xs ++ ys)
all_of_append P xs ys h1 h2 = grind (arith, common_steps)

-- two runs of faults, one after the other, are one run
joined_runs_are_run : {from mid to : ℕ} (xs ys : List Fault) → from ≤ mid → mid ≤ to
    → IsRun from mid xs
    → IsRun mid to ys → IsRun from to (xs ++ ys)
joined_runs_are_run {from = from} {mid = mid} {to = to} xs ys from_le_mid mid_le_to xs_are_run
    ys_are_run = record {
      from_le_places =
          all_of_append (λ f. from ≤ f.at) xs ys xs_are_run.from_le_places
          (all_of_weaker (λ f. mid ≤ f.at) (λ f. from ≤ f.at) ys
          (λ f place_le. omega (arith, from_le_mid, place_le))
          ys_are_run.from_le_places);
      places_lt_to =
          all_of_append (λ f. f.at < to) xs ys
          (all_of_weaker (λ f. f.at < mid) (λ f. f.at < to) xs
          (λ f place_le. omega (arith, mid_le_to, place_le)) xs_are_run.places_lt_to)
          ys_are_run.places_lt_to;
      are_sorted = joined_is_sorted xs xs_are_run.places_lt_to xs_are_run.are_sorted;
    }
  where
    joined_is_sorted : (xs : List Fault) → AllByRecursion (λ (f : Fault). f.at < mid) xs
        → AreSorted xs
        → AreSorted (xs ++ ys)
    joined_is_sorted [] places_lt_mid xs_are_sorted = ys_are_run.are_sorted
    joined_is_sorted (x ∷ xs) places_lt_mid xs_are_sorted = (
      all_of_append (λ g. is_before x g ≡ true) xs ys xs_are_sorted.0
          (all_of_weaker (λ f. mid ≤ f.at) (λ g. is_before x g ≡ true) ys
          (λ g mid_le_place. earlier_is_before x g (omega (arith, places_lt_mid.0, mid_le_place)))
          ys_are_run.from_le_places),
      joined_is_sorted xs places_lt_mid.1 xs_are_sorted.1,
    )

-- no faults are a run
run_of_none : (from to : ℕ) → IsRun from to []
run_of_none from to = record { from_le_places = tt; places_lt_to = tt; are_sorted = tt }

-- one fault is a run
run_of_one : {from to place : ℕ} {c : Code} → from ≤ place → place < to
    → IsRun from to (fault place c ∷ [])
run_of_one from_le_place place_lt_to = grind (arith, common_steps)

-- a fault that there may be is a run
run_if : (from to place : ℕ) (b : Bool) (c : Code) → from ≤ place → place < to
    → IsRun from to (faults_at place (when b c))
run_if from to place b c h1 h2 = grind (arith, common_steps, run_of_one, run_of_none)

-- a run from a later place is one from an earlier place
run_from_lower : (from low to : ℕ) (fs : List Fault) → from ≤ low → IsRun low to fs
    → IsRun from to fs
run_from_lower from low to fs from_le_low is_run = grind (arith, common_steps, all_of_weaker)

-- ---- letters

-- the letters stand one after the other, from a place on and before an end
abbrev AreRising : ℕ → List Letter → ℕ → Type 0
AreRising from [] end = from ≤ end
AreRising from (x ∷ xs) end = (from ≤ x.at) × AreRising (x.at + 1) xs end

-- an open run of early letters, before a place
abbrev IsOpenAt : ℕ → List Letter → ℕ → Type 0
IsOpenAt from [] now = from ≤ now
IsOpenAt from (x ∷ xs) now = (from ≤ x.at) × (x.at < now)

-- such a run begins no later than the place
open_from_le : (from now : ℕ) (early : List Letter) → IsOpenAt from early now → from ≤ now
open_from_le from now early h1 = grind (arith, common_steps)

-- letters that rise from a later place rise from an earlier one
rising_from_lower : (from to end : ℕ) (xs : List Letter) → from ≤ to → AreRising to xs end
    → AreRising from xs end
rising_from_lower from to end [] from_le_to are_rising = omega (arith, from_le_to, are_rising)
rising_from_lower from to end (x ∷ xs) from_le_to (to_le_place, are_rising) = search (rules, arith)

-- the letters of a word rise
word_letters_rise : (place end : ℕ) (w : Bytes) (rest : List Letter)
    → AreRising (place + length w) rest end
    → AreRising place (letters_from place w ++ rest) end
word_letters_rise place end [] rest rest_rises = grind (arith, common_steps, rising_from_lower)
word_letters_rise place end (b ∷ bs) rest rest_rises = (
  omega arith,
  word_letters_rise (place + 1) end bs rest
      (rising_from_lower (place + 1 + length bs) (place + suc (length bs)) end rest
      (omega arith) rest_rises),
)

-- the letters of words in order rise
letters_rise : (from end : ℕ) (ts : List Token) → AreInOrder from ts end
    → AreRising from (letters_of ts) end
letters_rise from end [] in_order = in_order
letters_rise from end (t ∷ ts) in_order =
    rising_from_lower from t.at end (letters_from t.at t.word ++ letters_of ts) in_order.0
    (word_letters_rise t.at end t.word (letters_of ts)
    (letters_rise (t.at + length t.word) end ts in_order.2))

-- the faults of a mark are a run
mark_faults_are_run : (from place : ℕ) (a b : Bool) → from ≤ place
    → IsRun from (place + 1) (faults_at place (when a OpenNumber ++ when b MarkBeforeStep))
mark_faults_are_run from place a b h1 = search (rules, arith, eq-eqb, or-true, run_of_one, run_if)

module _ (labels end : ℕ) where
  -- the faults of a number are a run
  group_faults_are_run : (from now place byte : ℕ) (early : List Letter) (marks count : ℕ)
      → IsOpenAt from early now → now ≤ place
      → IsRun from (place + 1)
      (group_fault labels marks count
      (record { early = early; last = record { at = place; byte = byte } }))
  group_faults_are_run from now place byte early marks count early_is_open now_le_place =
      faults_are_run (is_last_letter byte)
      (byte == 90)
      (byte == 63)
    where
      g : Group
      g = record { early = early; last = record { at = place; byte = byte } }

      start_in_range : (early : List Letter) → IsOpenAt from early now
          → (from ≤ starts_at (record { early = early; last = record { at = place; byte = byte } }))
          × (starts_at (record { early = early; last = record { at = place; byte = byte } })
          < place + 1)
      start_in_range [] is_open = (omega (arith, is_open, now_le_place), omega arith)
      start_in_range (x ∷ xs) (from_le_first, first_lt_now) =
          (from_le_first, omega (arith, first_lt_now, now_le_place))

      from_le_place : from ≤ place
      from_le_place = let from_le_now = open_from_le from now early early_is_open in
          omega (arith, from_le_now, now_le_place)

      faults_are_run : (a b c : Bool) → IsRun from (place + 1) (elim a [
        | true ↦ faults_at (starts_at g) (when (nat_lt (labels + marks) (value g)) NumberTooLarge)
        | false ↦ elim b [
          | true ↦ faults_at place
              (when (nat_lt 0 (length early)) OpenNumber ++ when (count == 0) MarkBeforeStep)
          | false ↦ faults_at place
              (elim c [ true ↦ IncompleteProof ∷ [] | false ↦ BadLetter ∷ [] ])
        ]
      ])
      faults_are_run true b c =
          run_if from (place + 1) (starts_at g) (nat_lt (labels + marks) (value g)) NumberTooLarge
          (start_in_range early early_is_open).0 (start_in_range early early_is_open).1
      faults_are_run false true c =
          mark_faults_are_run from place (nat_lt 0 (length early)) (count == 0) from_le_place
      faults_are_run false false true = run_of_one from_le_place (omega arith)
      faults_are_run false false false = run_of_one from_le_place (omega arith)

  -- the faults of the letters from an open run on
  abbrev remaining_faults : List Letter → ℕ → ℕ → List Letter → List Fault
  remaining_faults early marks count xs =
      group_faults labels marks count (groups early xs).0
      ++ faults_at end (when (nat_lt 0 (length (groups early xs).1)) OpenNumber)

  -- letters that rise from a place begin no later than the end
  rising_from_le_end : (from : ℕ) (xs : List Letter) → AreRising from xs end → from ≤ end
  rising_from_le_end from [] are_rising = are_rising
  rising_from_le_end from (x ∷ xs) (from_le_first, are_rising) =
      let next_le_end = rising_from_le_end (x.at + 1) xs are_rising in
      omega (arith, from_le_first, next_le_end)

  -- the faults of the letters that are left are a run
  remaining_faults_are_run : (xs early : List Letter) (from now marks count : ℕ)
      → IsOpenAt from early now
      → AreRising now xs end → IsRun from (end + 1) (remaining_faults early marks count xs)
  remaining_faults_are_run [] early from now marks count is_open_at are_rising =
      run_if from (end + 1) end (nat_lt 0 (length early)) OpenNumber
      (let from_le_now = open_from_le from now early is_open_at in
      omega (arith, from_le_now, are_rising))
      (omega arith)
  remaining_faults_are_run (x ∷ xs) early from now marks count early_is_open are_rising =
      groups_are_run (is_early_letter x.byte)
      (remaining_faults_are_run xs (early ++ x ∷ []) from (x.at + 1) marks count
      (open_with_letter early early_is_open) are_rising.1)
      (group_is_run (x.byte == 90)
      (remaining_faults_are_run xs [] (x.at + 1) (x.at + 1) (marks + 1) count
      (omega arith) are_rising.1)
      (remaining_faults_are_run xs [] (x.at + 1) (x.at + 1) marks (count + 1)
      (omega arith) are_rising.1))
    where
      open_with_letter : (early : List Letter) → IsOpenAt from early now
          → IsOpenAt from (early ++ x ∷ []) (x.at + 1)
      open_with_letter [] is_open =
          (let now_le_place = are_rising.0 in omega (arith, is_open, now_le_place), omega arith)
      open_with_letter (e ∷ es) (from_le_first, first_lt_now) = (
        from_le_first,
        let now_le_place = are_rising.0 in omega (arith, now_le_place, first_lt_now),
      )

      g : Group
      g = record { early = early; last = x }

      later_groups : List Group
      later_groups = (groups [] xs).0

      end_faults : List Fault
      end_faults = faults_at end (when (nat_lt 0 (length (groups [] xs).1)) OpenNumber)

      first_is_run : IsRun from (x.at + 1) (group_fault labels marks count g)
      first_is_run = group_faults_are_run from now x.at x.byte early marks count early_is_open
          are_rising.0

      from_le_next : from ≤ x.at + 1
      from_le_next = let from_le_now = open_from_le from now early early_is_open in
          omega (arith, are_rising.0, from_le_now)

      next_le_end : x.at + 1 ≤ end + 1
      next_le_end = let next_le_end_of_letters = rising_from_le_end (x.at + 1) xs are_rising.1 in
          omega (arith, next_le_end_of_letters)

      faults_of_kind : Bool → List Fault
      faults_of_kind b =
          (group_fault labels marks count g
          ++ elim b [
            | true ↦ group_faults labels (marks + 1) count later_groups
            | false ↦ group_faults labels marks (count + 1) later_groups
          ])
          ++ end_faults

      group_is_run : (b : Bool)
          → IsRun (x.at + 1) (end + 1) (remaining_faults [] (marks + 1) count xs)
          → IsRun (x.at + 1) (end + 1) (remaining_faults [] marks (count + 1) xs)
          → IsRun from (end + 1) (faults_of_kind b)
      group_is_run true run_after_mark run_after_step =
          rw (append_assoc (group_fault labels marks count g)
          (group_faults labels (marks + 1) count later_groups) end_faults)
          (joined_runs_are_run _ _ from_le_next next_le_end first_is_run
          run_after_mark)
      group_is_run false run_after_mark run_after_step =
          rw (append_assoc (group_fault labels marks count g)
          (group_faults labels marks (count + 1) later_groups) end_faults)
          (joined_runs_are_run _ _ from_le_next next_le_end first_is_run
          run_after_step)

      groups_of_kind : Bool → List Group × List Letter
      groups_of_kind a =
          elim a [
            | true ↦ groups (early ++ x ∷ []) xs
            | false ↦ let q = groups [] xs in (record { early = early; last = x } ∷ q.0, q.1)
          ]

      faults_of_groups : Bool → List Fault
      faults_of_groups a =
          group_faults labels marks count (groups_of_kind a).0
          ++ faults_at end (when (nat_lt 0 (length (groups_of_kind a).1)) OpenNumber)

      groups_are_run : (a : Bool)
          → IsRun from (end + 1) (remaining_faults (early ++ x ∷ []) marks count xs)
          → IsRun from (end + 1) (faults_of_kind (x.byte == 90))
          → IsRun from (end + 1) (faults_of_groups a)
      groups_are_run true run_after_early run_after_group = run_after_early
      groups_are_run false run_after_early run_after_group = run_after_group

  -- the faults of all letters are a run
  letter_faults_are_run : (from : ℕ) (xs : List Letter) → AreRising from xs end
      → IsRun from (end + 1) (letter_faults labels end xs)
  letter_faults_are_run from [] are_rising =
      run_of_one are_rising (omega arith)
  letter_faults_are_run from (x ∷ xs) are_rising =
      remaining_faults_are_run (x ∷ xs) [] from from 0 0 (omega arith) are_rising

-- ---- brackets

-- the faults of a label are a run
label_faults_are_run : (db : List Statement) (k : ℕ) (t : Token)
    → IsRun t.at (t.at + 1) (proof_label_faults db k t)
label_faults_are_run db k t = grind (arith, common_steps, run_of_one, run_of_none)

-- words in order begin no later than they end
in_order_from_le_end : (from end : ℕ) (ts : List Token) → AreInOrder from ts end → from ≤ end
in_order_from_le_end from end [] in_order = in_order
in_order_from_le_end from end (t ∷ ts) (from_le_place, has_bytes, in_order) =
    let next_le_end = in_order_from_le_end (t.at + length t.word) end ts in_order in
    omega (arith, from_le_place, next_le_end)

module _ (db : List Statement) (k end : ℕ) where
  -- the faults of a compressed proof
  abbrev faults_of : ℕ → Compressed → List Fault
  faults_of n p =
      flat_map (proof_label_faults db k) p.labels
      ++ elim p.letters
      [ None ↦ fault end OpenBrackets ∷ [] | Some us ↦ letter_faults n end (letters_of us) ]

  -- the faults of the labels in brackets and of the letters are a run
  bracket_faults_are_run : (n from : ℕ) (ts : List Token) → AreInOrder from ts end
      → IsRun from (end + 1) (faults_of n (bracketed ts))
  bracket_faults_are_run n from [] in_order = run_of_one in_order (omega arith)
  bracket_faults_are_run n from (t ∷ ts) in_order =
      faults_are_run (bytes_eq t.word (codes ")"))
      (bracket_faults_are_run n (t.at + length t.word) ts in_order.2)
    where
      label_end_le_end : t.at + length t.word ≤ end
      label_end_le_end = in_order_from_le_end (t.at + length t.word) end ts in_order.2

      faults_are_run : (b : Bool) → IsRun (t.at + length t.word) (end + 1) (faults_of n
          (bracketed ts))
          → IsRun from (end + 1)
          (faults_of n
          (elim b [
            | true ↦ record { labels = []; letters = Some ts }
            | false ↦ with_label t (bracketed ts)
          ]))
      faults_are_run true rest_is_run =
          let from_le_place = in_order.0 in
          letter_faults_are_run n end from (letters_of ts)
          (rising_from_lower from (t.at + length t.word) end (letters_of ts)
          (omega (arith, from_le_place))
          (letters_rise (t.at + length t.word) end ts in_order.2))
      faults_are_run false rest_is_run =
          let from_le_place = in_order.0 in
          subst (IsRun from (end + 1))
          (sym (append_assoc (proof_label_faults db k t)
          (flat_map (proof_label_faults db k) (bracketed ts).labels) _))
          (joined_runs_are_run _ _ (omega (arith, from_le_place))
          (omega (arith, label_end_le_end))
          (run_from_lower from t.at (t.at + 1) _ from_le_place (label_faults_are_run db k t))
          (run_from_lower (t.at + 1) (t.at + length t.word) (end + 1) _
          (omega (arith, in_order.1)) rest_is_run))

  -- the first fault that is found is the first
  pub first_fault_is_refusal : (from : ℕ) (ts : List Token) (e : ProofRefused)
      → AreInOrder from ts end
      → StartsWith (compressed_faults db k end (bracketed ts)) e
      → IsProofRefusal (compressed_faults db k end (bracketed ts)) e
  first_fault_is_refusal from ts Memory in_order starts_with_f = tt
  first_fault_is_refusal from ts (Faulty f) in_order (more, faults_are) =
      let numbered_count = length (mandatory_hypotheses db k) + length (bracketed ts).labels in
      ap least faults_are ∙ first_is_least f more
      (subst AreSorted faults_are
      (bracket_faults_are_run numbered_count from ts in_order).are_sorted).0
