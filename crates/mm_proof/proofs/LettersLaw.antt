-- How the steps and the faults of a compressed proof go on after the last letter of a number.
use Rattle.std.proofs.Common.{rules, ◌==◌, true, false, List, ◌++◌, Some, None, refl, arith, IfErr}
use Rattle.std.proofs.Common.{◌≡◌, ◌∙◌, ◌+◌, ◌-◌, ◌*◌, ◌<◌, ◌≤◌, [], ◌∷◌, sym, ap, drop, fold}
use Rattle.std.proofs.Common.{ℕ, append_assoc, length-append, length-take, length-drop, slice_range}
use Rattle.std.proofs.Common.{length, Option, nat_lt, leb-true, eqb-true, Result, get_or, is_some}
use Rattle.std.proofs.lemmas.Grind.{common_steps}
use Rattle.std.specs.Result.{IsErrAnd}
use Rattle.std.proofs.lemmas.List.{drop_more, append-nil}
use Rattle.std.proofs.lemmas.Bool.{and_parts, le-ltb, lt-ltb}
use Rattle.std.proofs.lemmas.Bool.Decides.{nat_tests}
use Rattle.mm_proof.proofs.BracketsLaw.{no_tokens_past_end}
use Rattle.std.proofs.lemmas.Option.{slice_get_within}
use Rattle.mm_spec.specs.Text.{Bytes, Token, fault}
use Rattle.mm_spec.specs.Lawful.{when, faults_at}
use Rattle.mm_spec.specs.Steps as spec
use Rattle.mm_spec.specs.Steps.{PlacedStep, placed}
use Rattle.mm_spec.specs.CompressedProof.{Letter, letters_from, letters_of, letter_faults, Group}
use Rattle.mm_spec.specs.CompressedProof.{is_early_letter, is_last_letter, groups, value, starts_at}
use Rattle.mm_spec.specs.CompressedProof.{step_of, group_steps, group_faults}
use Rattle.mm_spec.specs.declared.Code.TheVariants.{OpenNumber}
use Rattle.mm_spec.specs.declared.Word.{Word as Place}
use Rattle.mm_outline.specs.Parts.{as_tokens, token_of}
use Rattle.mm_proof.specs.Number.{saturated}
use Rattle.mm_proof.specs.Letters.{LettersState, letters_state, letter, Begins, Continues, StandsAt}
use Rattle.mm_proof.specs.Letters.{BeginsAt, if_begun, AreInOrder}
use Rattle.mm_proof.specs.Refused.{StartsWith}
use Rattle.mm_proof.specs.declared.refused.ProofRefused.{ProofRefused}
use Rattle.mm_proof.specs.declared.refused.ProofRefused.TheVariants.{Fault as Faulty, Memory}
use Rattle.mm_proof.specs.declared.letters.BegunNumber.{BegunNumber}

-- what follows from a property of an error holds of the error
pub on_err_then : {T E : Type 0} (r : Result T E) {P Q : E → Type 0} → IfErr r P
    → ((e : E) → P e → Q e) → IfErr r Q
on_err_then r h1 h2 = grind (arith, common_steps)

-- an error that is passed on
pub on_same_err : {T E : Type 0} (r : Result T E) (e : E) (P : E → Type 0) → IsErrAnd r (λ x. x ≡ e)
    → P e → IfErr r P
on_same_err r e P h1 h2 = grind (arith, common_steps)

-- the letters from a place up to the end of their word
pub letters_begin_with_letter : (text : List ℕ) (i end : ℕ) → i < end → end ≤ length text
    → letters_from i (slice_range text i end)
    ≡ letter i (get_or text i 0) ∷ letters_from (i + 1) (slice_range text (i + 1) end)
letters_begin_with_letter text i end i_lt_end end_le_length = grind (arith, nat_tests, drop_more)

-- past the end of a word there are no letters
pub no_letters_past_end : (text : List ℕ) (i end : ℕ) → end ≤ i
    → letters_from i (slice_range text i end) ≡ []
no_letters_past_end text i end end_le_i = grind (arith, common_steps)

-- what was read stands before the words that are left
abbrev pub StandsBefore : LettersState → List Token → ℕ → Type 0
StandsBefore s ts end = (from : ℕ) × StandsAt s from × AreInOrder from ts end

-- what was read stands before the words after the first one, once that has been read
pub stands_before_rest : (s new : LettersState) (text : List ℕ) (w : Place) (ws : List Place)
    (end : ℕ)
    → w.start ≤ w.end → w.end ≤ length text → StandsBefore s (as_tokens text (w ∷ ws)) end
    → StandsAt new w.end → StandsBefore new (as_tokens text ws) end
stands_before_rest s new text w ws end start_le_end end_le_length stands_before_w
    new_stands_at_end =
    grind (arith, common_steps, slice_range, length-take, length-drop)

-- the letters of a number, the last of them at a place
abbrev group : List Letter → ℕ → ℕ → Group
group early at byte = record { early = early; last = letter at byte }

-- what is named has a number that isn't too large
named_number_le_count : (labels marks : List ℕ) (n : ℕ) (s : spec.Step)
    → step_of labels marks n ≡ s ∷ []
    → n ≤ length labels + length marks
named_number_le_count labels marks n s h1 = grind (arith, common_steps, slice_get_within)

-- after the last letter of a number the state has its step
pub continues_after_last_letter : (t : ℕ) (labels marks : List ℕ) (number : BegunNumber)
    (steps : List PlacedStep)
    → (place byte : ℕ) (s : spec.Step)
    → BeginsAt number place → is_early_letter byte ≡ false → is_last_letter byte ≡ true
    → ((n : ℕ) → saturated (20 * number.value + (byte - 64)) ≡ saturated n
    → step_of labels marks n ≡ s ∷ [])
    → (all_letters unread : List Letter)
    → Continues (letters_state t labels marks (if_begun number) steps) all_letters
    (letter place byte ∷ unread)
    → Continues (letters_state t labels marks None (steps ++ placed number.at s ∷ [])) all_letters
    unread
continues_after_last_letter t labels marks number steps place byte s begins_at_place
    byte_is_not_early byte_is_last number_names_s all_letters unread continues =
    grind (arith, common_steps, named_number_le_count)

-- the digit of an early letter is 1 to 5
pub early_digit_is_in_range : (byte digit : ℕ) → is_early_letter byte ≡ true → digit ≡ byte - 84
    → (0 < digit) × (digit ≤ 20)
early_digit_is_in_range byte digit byte_is_early digit_is =
    grind (arith, common_steps, and_parts, leb-true)

-- a number whose value isn't 0 has begun
pub number_with_letters_is_begun : (b : BegunNumber) → 0 < b.value → if_begun b ≡ Some b
number_with_letters_is_begun b value_gt_0 = grind (arith, nat_tests)

-- a number whose value is 0 hasn't begun
pub number_without_letters_is_not_begun : (b : BegunNumber) → b.value ≡ 0 → if_begun b ≡ None
number_without_letters_is_not_begun b value_is_0 = rw value_is_0 refl

-- an early letter of this number
pub continues_after_early_letter : (t : ℕ) (labels marks : List ℕ) (number : BegunNumber)
    (steps : List PlacedStep)
    → (place byte : ℕ) (next : BegunNumber) → BeginsAt number place → is_early_letter byte ≡ true
    → next.at ≡ number.at → next.value ≡ saturated (5 * number.value + (byte - 84))
    → (all_letters unread : List Letter)
    → Continues (letters_state t labels marks (if_begun number) steps) all_letters
    (letter place byte ∷ unread)
    → Continues (letters_state t labels marks (if_begun next) steps) all_letters unread
continues_after_early_letter t labels marks number steps place byte next begins_at_place
    byte_is_early place_is value_is all_letters unread continues =
    grind (arith, common_steps)

-- a `Z` after the last letter of a number
pub continues_after_mark : (t : ℕ) (labels marks : List ℕ) (steps : List PlacedStep) (place : ℕ)
    → (length steps == 0) ≡ false → (all_letters unread : List Letter)
    → Continues (letters_state t labels marks None steps) all_letters (letter place 90 ∷ unread)
    → Continues (letters_state t labels (marks ++ (length steps - 1) ∷ []) None steps) all_letters
    unread
continues_after_mark t labels marks steps place has_steps all_letters unread continues =
    grind (arith, common_steps, length-append)

-- ---- all letters

-- before the first letter
pub continues_from_start : {s : LettersState} {t : ℕ} {labels : List ℕ}
    → s ≡ letters_state t labels [] None [] → (all_letters : List Letter)
    → Continues s all_letters all_letters
continues_from_start none_read all_letters = grind (arith, common_steps)

-- a fault of the letters is one of the proof
pub letter_fault_is_first : (n end : ℕ) (all_letters : List Letter) (e : ProofRefused)
    → StartsWith (group_faults n 0 0 (groups [] all_letters).0) e
    → StartsWith (letter_faults n end all_letters) e
letter_fault_is_first n end all_letters Memory starts_with_e = tt
letter_fault_is_first n end [] (Faulty f) starts_with_e = grind (arith, common_steps)
letter_fault_is_first n end (x ∷ xs) (Faulty f) (more, starts_with_f) =
    let end_fault = faults_at end (when (nat_lt 0 (length (groups [] (x ∷ xs)).1)) OpenNumber) in
    (more ++ end_fault, ap (λ fs. fs ++ end_fault) starts_with_f)

-- after the last letter, where a number is open and where none is
has_early_letters : (o : Option BegunNumber) (early : List Letter) → Begins o early
    → nat_lt 0 (length early) ≡ is_some o
has_early_letters o early h1 = grind (arith, common_steps, lt-ltb)

-- of all letters at most a number that is open at the end has a fault
faults_at_end : (s : LettersState) (end : ℕ) (x : Letter) (xs : List Letter)
    → Continues s (x ∷ xs) []
    → letter_faults (length s.labels) end (x ∷ xs)
    ≡ faults_at end (when (is_some s.number) OpenNumber)
faults_at_end s end x xs continues = grind (arith, common_steps, has_early_letters)

-- a number that is open at the end is the first fault
pub open_number_is_first_fault : (s : LettersState) (end : ℕ) (all_letters : List Letter)
    → is_some s.number ≡ true
    → ¬ (all_letters ≡ []) → Continues s all_letters []
    → StartsWith (letter_faults (length s.labels) end all_letters) (Faulty (fault end OpenNumber))
open_number_is_first_fault s end all_letters h1 h2 h3 = grind (arith, common_steps, faults_at_end)

-- if no number is open at the end, the letters have no fault
pub no_fault_at_end : (s : LettersState) (end : ℕ) (all_letters : List Letter)
    → is_some s.number ≡ false
    → ¬ (all_letters ≡ []) → Continues s all_letters []
    → letter_faults (length s.labels) end all_letters ≡ []
no_fault_at_end s end all_letters h1 h2 h3 = grind (arith, common_steps, faults_at_end)

-- all letters have been read after the last word
pub continues_at_end : (s : LettersState) (text : List ℕ) (ws : List Place) (n : ℕ)
    (all_letters : List Letter)
    → length ws ≤ n → Continues s all_letters (letters_of (as_tokens text (drop n ws)))
    → Continues s all_letters []
continues_at_end s text ws n all_letters length_le_n continues =
    grind (arith, common_steps, no_tokens_past_end)

-- at the end the steps of the state are the steps of all letters
pub steps_are_all_steps : (s : LettersState) (all_letters : List Letter)
    → Continues s all_letters []
    → s.steps ≡ group_steps s.labels [] 0 (groups [] all_letters).0
steps_are_all_steps s all_letters continues = sym (continues.steps ∙ append-nil s.steps)

-- words in order have letters
pub words_have_letters : (from end : ℕ) (text : List ℕ) (ws : List Place)
    → AreInOrder from (as_tokens text ws) end → (length ws == 0) ≡ false
    → ¬ (letters_of (as_tokens text ws) ≡ [])
words_have_letters from end text [] in_order words_are_some no_letters = cc
words_have_letters from end text (v ∷ ws) in_order words_are_some no_letters =
    has_letters (token_of text v).word in_order.1 no_letters
  where
    has_letters : (w : Bytes) → 1 ≤ length w
        → ¬ (letters_from v.start w ++ letters_of (as_tokens text ws) ≡ [])
    has_letters [] words_are_some no_letters = absurd (omega arith)
    has_letters (b ∷ bs) words_are_some no_letters = cc

-- a letter without a step
pub stands_at_next : (s : LettersState) (at : ℕ) → StandsAt s at → StandsAt s (at + 1)
stands_at_next s at stands = grind (arith, common_steps)

-- a letter with a step
pub stands_at_next_with_step : (s new : LettersState) (at : ℕ) (x : PlacedStep) → StandsAt s at
    → new ≡ letters_state s.theorem s.labels s.marks None (s.steps ++ x ∷ [])
    → StandsAt new (at + 1)
stands_at_next_with_step s new at x stands new_has_step = grind (arith, common_steps, length-append)

-- the digits of letters
pub last_digit_is_in_range : (byte digit : ℕ) → is_last_letter byte ≡ true → digit ≡ byte - 64
    → (0 < digit) × (digit ≤ 20)
last_digit_is_in_range byte digit byte_is_last digit_is = search (rules, arith, and_parts, leb-true)
