-- The words of statements that are needed again.
use Rattle.std.specs.Prelude.{◌≡◌, ℕ, ◌+◌, ◌-◌, List, [], ◌∷◌, ◌++◌, length, slice_get}
use Rattle.std.specs.Prelude.{slice_index_or, slice_range, if◌then◌else◌, None, Some}
use Rattle.mm_spec.specs.Text.{Token}
pub use Rattle.mm_spec.specs.Assertion.{end_at}
use Rattle.mm_spec.specs.Statement.{Statement, label_of, proof_of}
use Rattle.mm_spec.specs.declared.Word.{Word}
use Rattle.mm_outline.specs.Parts.{nth_word, as_tokens, is_labelled_kind, AreWithin}
use Rattle.mm_outline.specs.declared.parts.Outline.{Outline}

abbrev pub label_word : List Word → Outline → List Word
label_word ws o = if is_labelled_kind o.kind then nth_word ws (o.keyword - 1) ∷ [] else []

-- the label if there is one, the words of the proof if there is one, and the last token
abbrev pub retained_words : List Word → Outline → List Word
retained_words ws o = label_word ws o ++ (slice_range ws (o.middle + 1) o.end
    ++ nth_word ws o.end ∷ [])

-- the label if there is one
abbrev pub label_tokens : Statement → List Token
label_tokens s = elim (label_of s) [ None ↦ [] | Some l ↦ l ∷ [] ]

-- the words are the label of the statement, if it has one, those of its proof, and its last token
pub record IsRetained (text : List ℕ) (s : Statement) (words : List Word) : Type 0 where
  pub label : List Word
  pub proof : List Word
  pub last : Word
  pub words_are : words ≡ label ++ (proof ++ last ∷ [])
  pub words_within_text : AreWithin text words
  pub label_is : as_tokens text label ≡ label_tokens s
  pub proof_is : as_tokens text proof ≡ proof_of s
  pub last_is : last.start ≡ end_at s

-- the kept words of each statement
pub record AreRetained (text : List ℕ) (db : List Statement) (retained : List (List Word)) : Type 0
  where
    pub count : length retained ≡ length db
    pub words_are_retained : (k : ℕ) (s : Statement) → slice_get db k ≡ Some s
        → IsRetained text s (slice_index_or retained k [])
