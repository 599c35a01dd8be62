-- What has been read of the letters of a compressed proof.
use Rattle.std.specs.Prelude.{◌≡◌, ℕ, ◌+◌, ◌-◌, ◌*◌, ◌<◌, ◌≤◌, All, List, [], ◌∷◌, ◌++◌, length}
use Rattle.std.specs.Prelude.{Option, Some, None, fold, take, drop, flat_map, ◌==◌}
use Rattle.std.specs.Prelude.{if◌then◌else◌, slice_range}
use Rattle.mm_spec.specs.declared.Word.{Word}
use Rattle.mm_spec.specs.Text.{Token}
use Rattle.mm_spec.specs.Statement.{Statement}
use Rattle.mm_spec.specs.NormalProof.{usable, proof_label_faults}
use Rattle.mm_spec.specs.Steps as spec
use Rattle.mm_spec.specs.Steps.{PlacedStep}
use Rattle.mm_spec.specs.CompressedProof.{Compressed, Letter, groups, group_steps, group_faults}
use Rattle.mm_spec.specs.CompressedProof.{bracketed, letter_faults, letters_from}
use Rattle.mm_outline.specs.Parts.{as_tokens}
use Rattle.mm_proof.specs.Number.{saturated}
use Rattle.mm_steps.specs.TheoremSteps.{as_step}
use Rattle.mm_proof.specs.Refused.{StartsWith}
use Rattle.mm_proof.specs.declared.letters.BegunNumber.{BegunNumber}
use Rattle.mm_steps.specs.declared.step_list.Step.{Step}
use Rattle.mm_proof.specs.declared.refused.ProofRefused.{ProofRefused}

-- the theorem, the labels that have numbers, the steps that were marked, the number whose last
-- letter hasn't been read yet, and the steps
pub record LettersState : Type 0 where
  pub theorem : ℕ
  pub labels : List ℕ
  pub marks : List ℕ
  pub number : Option BegunNumber
  pub steps : List PlacedStep

-- a state with these parts
abbrev pub letters_state : ℕ → List ℕ → List ℕ → Option BegunNumber → List PlacedStep → LettersState
letters_state t labels marks number steps =
    record { theorem = t; labels = labels; marks = marks; number = number; steps = steps }

-- the same state, except for the number
abbrev pub with_number : LettersState → Option BegunNumber → LettersState
with_number s number = letters_state s.theorem s.labels s.marks number s.steps

-- a byte at a place
abbrev pub letter : ℕ → ℕ → Letter
letter at byte = record { at = at; byte = byte }

-- the letters of a word of a text
abbrev pub word_letters : List ℕ → Word → List Letter
word_letters text word = letters_from word.start (slice_range text word.start word.end)

-- the value of early letters
abbrev pub early_value : List Letter → ℕ
early_value early = fold (λ n x. 5 * n + (x.byte - 84)) 0 early

-- the number that has begun consists of these early letters: it has the place of the first and the
-- value of all
abbrev pub Begins : Option BegunNumber → List Letter → Type 0
Begins None early = early ≡ []
Begins (Some b) early =
    (first : Letter) × (more : List Letter) × (early ≡ first ∷ more) × (b.at ≡ first.at)
    × (b.value ≡ saturated (early_value early))

-- Of the letters `all`, the letters `unread` are left to be read. The steps of `all` are the steps
-- so far and those of `unread`, and the faults of `all` are those of `unread`.
pub record Continues (s : LettersState) (all unread : List Letter) : Type 0 where
  pub early : List Letter
  pub begins : Begins s.number early
  pub steps : group_steps s.labels [] 0 (groups [] all).0
      ≡ s.steps ++ group_steps s.labels s.marks (length s.steps) (groups early unread).0
  pub faults : group_faults (length s.labels) 0 0 (groups [] all).0
      ≡ group_faults (length s.labels) (length s.marks) (length s.steps) (groups early unread).0
  pub run : (groups [] all).1 ≡ (groups early unread).1

-- each mark is of a step so far, and there are no more steps than bytes before the place
pub record StandsAt (s : LettersState) (at : ℕ) : Type 0 where
  pub steps_le_place : length s.steps ≤ at
  pub marks_are_earlier : All (λ j. j < length s.steps) s.marks

-- a number that has no letters yet begins at the place
abbrev pub BeginsAt : BegunNumber → ℕ → Type 0
BeginsAt number at = number.value ≡ 0 → number.at ≡ at

-- the same, with the number to which the letter at the place belongs
pub record IsReadUpTo (s : LettersState) (number : BegunNumber) (at : ℕ) : Type 0 where
  pub stands : StandsAt s at
  pub begins : BeginsAt number at

-- the number if it has letters
abbrev pub if_begun : BegunNumber → Option BegunNumber
if_begun number = if number.value == 0 then None else Some number

-- these letters lead from the state `old` to the state `new`, of the same theorem and labels
pub record ReadsLetters (old : LettersState) (xs : List Letter) (new : LettersState) : Type 0 where
  pub theorem : new.theorem ≡ old.theorem
  pub labels : new.labels ≡ old.labels
  pub continues : (all unread : List Letter) → Continues old all (xs ++ unread)
      → Continues new all unread

-- These are all letters of a proof that ends at a place: the steps are those that they name, and
-- they have no fault.
pub record ReadsAllLetters (old : LettersState) (xs : List Letter) (end : ℕ) (new : LettersState)
    : Type 0 where
  pub theorem : new.theorem ≡ old.theorem
  pub steps : new.steps ≡ group_steps old.labels [] 0 (groups [] xs).0
  pub letters_are_faultless : letter_faults (length old.labels) end xs ≡ []

-- these letters have a fault, which is the first fault of all letters
abbrev pub RefusesLetters : LettersState → List Letter → ProofRefused → Type 0
RefusesLetters old xs e =
    (all unread : List Letter) → Continues old all (xs ++ unread)
    → StartsWith (group_faults (length old.labels) 0 0 (groups [] all).0) e

-- the step that a number names, if it names one
abbrev pub step_as_list : Option Step → List spec.Step
step_as_list None = []
step_as_list (Some s) = as_step s ∷ []

-- from place `from` on, each token is a word that isn't empty and doesn't begin before the end of
-- the one before it, and none goes past `end`
abbrev pub AreInOrder : ℕ → List Token → ℕ → Type 0
AreInOrder from [] end = from ≤ end
AreInOrder from (t ∷ ts) end =
    (from ≤ t.at) × (1 ≤ length t.word) × AreInOrder (t.at + length t.word) ts end

-- brackets that are closed, and the letters after them
abbrev pub closed_brackets : List Token → List Token → Compressed
closed_brackets labels letters = record { labels = labels; letters = Some letters }

-- What was read of the labels in brackets: they are the first `n` words, before a `)`. They have no
-- fault, and the statements that they name were appended to the list `old`.
pub record ReadsLabels (db : List Statement) (k : ℕ) (text : List ℕ) (words : List Word) (n : ℕ)
    (old new : List ℕ) : Type 0 where
  pub n_lt_length : n < length words
  pub brackets : bracketed (as_tokens text words)
      ≡ closed_brackets (as_tokens text (take n words)) (as_tokens text (drop (n + 1) words))
  pub labels : new
      ≡ old ++ flat_map (λ t. usable db k t.word) (as_tokens text (take n words))
  pub label_count : length new ≡ length old + n
  pub labels_are_faultless : flat_map (proof_label_faults db k) (as_tokens text (take n words)) ≡ []
