-- A compressed proof: labels in brackets, and after them letters, which spell numbers and marks;
-- white space may occur between any two letters (Metamath book, "Compressed Proofs").
use Rattle.std.specs.Prelude.{ℕ, zero, suc, ◌+◌, ◌-◌, ◌*◌, Bool, true, false, ◌&&◌, List, [], ◌∷◌}
use Rattle.std.specs.Prelude.{◌++◌, map, length, Option, Some, None, nat_lt, nat_le, ◌==◌, bytes_eq}
use Rattle.std.specs.Prelude.{flat_map, slice_get, codes, fold}
use Rattle.mm_spec.specs.Text.{Bytes, Token, Fault, fault}
use Rattle.mm_spec.specs.Statement.{Statement}
use Rattle.mm_spec.specs.Lawful.{when, faults_at}
use Rattle.mm_spec.specs.Frame.{mandatory_hypotheses}
use Rattle.mm_spec.specs.Steps.{Step, PlacedStep, placed, label, marked}
use Rattle.mm_spec.specs.NormalProof.{usable, proof_label_faults}
use Rattle.mm_spec.specs.declared.Code.TheVariants.{EmptyProof, IncompleteProof, OpenBrackets}
use Rattle.mm_spec.specs.declared.Code.TheVariants.{BadLetter, OpenNumber, MarkBeforeStep}
use Rattle.mm_spec.specs.declared.Code.TheVariants.{NumberTooLarge}

-- a compressed proof without its `(`: the labels in brackets, and the words after the `)`, if there
-- is one
pub record Compressed : Type 0 where
  pub labels : List Token
  pub letters : Option (List Token)

abbrev pub with_label : Token → Compressed → Compressed
with_label t p = record p { labels = t ∷ p.labels }

-- the words after the `(` of a compressed proof
abbrev pub bracketed : List Token → Compressed
bracketed [] = record { labels = []; letters = None }
bracketed (t ∷ ts) = elim (bytes_eq t.word (codes ")"))
    [ true ↦ record { labels = []; letters = Some ts } | false ↦ with_label t (bracketed ts) ]

-- a letter with its place
pub record Letter : Type 0 where
  pub at : ℕ
  pub byte : ℕ

-- the letters of a word, which begins at the place
abbrev pub letters_from : ℕ → Bytes → List Letter
letters_from at [] = []
letters_from at (b ∷ bs) = record { at = at; byte = b } ∷ letters_from (at + 1) bs

-- a run of letters `U` to `Y`, and the letter after it: a number, or a mark if the run is empty and
-- the letter `Z`
pub record Group : Type 0 where
  pub early : List Letter
  pub last : Letter

-- `U` to `Y`, an earlier digit of a number
abbrev pub is_early_letter : ℕ → Bool
is_early_letter b = nat_le 85 b && nat_le b 89

-- `A` to `T`, the last digit of a number
abbrev pub is_last_letter : ℕ → Bool
is_last_letter b = nat_le 65 b && nat_le b 84

-- `Z`, which marks the step before it
abbrev pub mark_letter : ℕ
mark_letter = 90

-- `?`, which stands for steps that aren't known
abbrev pub unknown_letter : ℕ
unknown_letter = 63

-- the groups, after the run `early` of early letters, and the run that is left at the end
abbrev pub groups : List Letter → List Letter → List Group × List Letter
groups early [] = ([], early)
groups early (x ∷ xs) = elim (is_early_letter x.byte) [
  | true ↦ groups (early ++ x ∷ []) xs
  | false ↦ let g = groups [] xs in (record { early = early; last = x } ∷ g.0, g.1)
]

-- The value of a number: the early letters in bijective base 5, times 20, plus the last. `U` is 85
-- and counts 1, and `A` is 65 and counts 1.
abbrev pub value : Group → ℕ
value g = fold (λ n x. 5 * n + (x.byte - 84)) 0 g.early * 20 + (g.last.byte - 64)

-- the place of the first letter
abbrev pub starts_at : Group → ℕ
starts_at g = elim g.early [ [] ↦ g.last.at | x ∷ xs ↦ x.at ]

-- what a number stands for: first the labels are numbered, from 1 on, then the marked steps
abbrev pub step_of : List ℕ → List ℕ → ℕ → List Step
step_of labels marks zero = []
step_of labels marks (suc n) = elim (slice_get labels n) [
  | Some j ↦ label j ∷ []
  | None ↦ elim (slice_get marks (n - length labels)) [ Some i ↦ marked i ∷ [] | None ↦ [] ]
]

-- the steps of the groups; `count` steps come before them, of which `marks` are marked
abbrev pub group_steps : List ℕ → List ℕ → ℕ → List Group → List PlacedStep
group_steps labels marks count [] = []
group_steps labels marks count (g ∷ gs) = elim (is_last_letter g.last.byte) [
  | true ↦ map (placed (starts_at g)) (step_of labels marks (value g))
      ++ group_steps labels marks (count + 1) gs
  | false ↦ group_steps labels (marks ++ (count - 1) ∷ []) count gs
]

-- The fault of a group: a number above all that have a meaning (E45), a `Z` within a number (E43)
-- or before the first one (E44), a `?` (E32), another byte (E42). `labels` says how many labels
-- have numbers, `marks` how many `Z` come before the group, and `count` how many other groups do.
abbrev pub group_fault : ℕ → ℕ → ℕ → Group → List Fault
group_fault labels marks count g = elim (is_last_letter g.last.byte) [
  | true ↦ faults_at (starts_at g) (when (nat_lt (labels + marks) (value g)) NumberTooLarge)
  | false ↦ elim (g.last.byte == mark_letter) [
    | true ↦ faults_at g.last.at
        (when (nat_lt 0 (length g.early)) OpenNumber ++ when (count == 0) MarkBeforeStep)
    | false ↦ faults_at g.last.at
        (elim (g.last.byte == unknown_letter)
        [ true ↦ IncompleteProof ∷ [] | false ↦ BadLetter ∷ [] ])
  ]
]

-- the faults of the groups, before which there are so many marks and other groups
abbrev pub group_faults : ℕ → ℕ → ℕ → List Group → List Fault
group_faults labels marks count [] = []
group_faults labels marks count (g ∷ gs) =
    group_fault labels marks count g ++ elim (g.last.byte == mark_letter) [
      | true ↦ group_faults labels (marks + 1) count gs
      | false ↦ group_faults labels marks (count + 1) gs
    ]

-- the faults of letters: there are none (E31), faults of groups, no last digit at the end (E43)
abbrev pub letter_faults : ℕ → ℕ → List Letter → List Fault
letter_faults labels end [] = fault end EmptyProof ∷ []
letter_faults labels end (x ∷ xs) = let g = groups [] (x ∷ xs) in
    group_faults labels 0 0 g.0 ++ faults_at end (when (nat_lt 0 (length g.1)) OpenNumber)

-- the letters of the words
abbrev pub letters_of : List Token → List Letter
letters_of ts = flat_map (λ t. letters_from t.at t.word) ts

-- the faults of a compressed proof: those of its labels, a missing `)` (E41), those of its letters
abbrev pub compressed_faults : List Statement → ℕ → ℕ → Compressed → List Fault
compressed_faults db k end p = flat_map (proof_label_faults db k) p.labels ++ elim p.letters [
  | None ↦ fault end OpenBrackets ∷ []
  | Some ts ↦ letter_faults (length (mandatory_hypotheses db k) + length p.labels) end
      (letters_of ts)
]

-- the steps of a compressed proof
abbrev pub compressed_steps : List Statement → ℕ → Compressed → List PlacedStep
compressed_steps db k p = elim p.letters [
  | None ↦ []
  | Some ts ↦ group_steps (mandatory_hypotheses db k ++ flat_map (λ t. usable db k t.word) p.labels)
      [] 0 (groups [] (letters_of ts)).0
]
