-- What is known of the words of a text from one stretch alone, and how adjacent stretches join.
use Rattle.std.specs.Prelude.{◌≡◌, ℕ, ◌+◌, ◌<◌, ◌≤◌, true, false, List, [], ◌∷◌, length, nat_lt}
use Rattle.std.specs.Prelude.{if◌then◌else◌}
use Rattle.mm_spec.specs.Words.{white_at}
use Rattle.mm_spec.specs.declared.Word.{Word}

-- no byte from `from` up to `to` is white space
abbrev pub NoWhite : List ℕ → ℕ → ℕ → Type 0
NoWhite text from to = (i : ℕ) → from ≤ i → i < to → white_at text i ≡ false

-- A stretch without white space that touches neither end of the text: a part of a word, or empty.
pub record IsUnbroken (text : List ℕ) (from to : ℕ) : Type 0 where
  pub from_is_positive : 0 < from
  pub from_le_to : from ≤ to
  pub to_lt_length : to < length text
  pub no_white : NoWhite text from to

-- Any other stretch. Its head goes from its beginning up to `head`, the first white-space byte; it
-- is empty if the stretch begins the text. Its tail goes from `tail`, after the last white-space
-- byte, to its end; it is empty if the stretch ends the text.
pub record IsBroken (text : List ℕ) (from to head tail : ℕ) : Type 0 where
  pub from_le_head : from ≤ head
  pub head_le_tail : head ≤ tail
  pub tail_le_to : tail ≤ to
  pub to_le_length : to ≤ length text
  pub head_not_white : NoWhite text from head
  pub tail_not_white : NoWhite text tail to
  pub no_head : from ≡ 0 → head ≡ 0
  pub no_tail : to ≡ length text → tail ≡ to
  pub head_ends : 0 < from → head < to → white_at text head ≡ true
  pub some_white : 0 < from → to < length text → head < tail
  pub tail_begins : to < length text → (i : ℕ) → i + 1 ≡ tail → from ≤ i → white_at text i ≡ true

-- the word that the tail of one stretch and the head of the next form together, if there is one
abbrev pub joined_word : ℕ → ℕ → List Word
joined_word tail head = if nat_lt tail head then record { start = tail; end = head } ∷ [] else []
