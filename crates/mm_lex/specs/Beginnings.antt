-- The words of a text, one after another: where the next one begins, and what it is.
use Rattle.std.specs.Prelude.{◌≡◌, ℕ, ◌+◌, ◌<◌, ◌≤◌, Bool, true, false, List, length}
use Rattle.mm_spec.specs.Words.{begins_word, word_at}
use Rattle.mm_spec.specs.Laws.Words.{IsWord}
use Rattle.mm_spec.specs.Readings.{bytes_of}
use Rattle.mm_spec.specs.declared.Word.{Word}
use Rattle.mm_lex.specs.Plain.{IsPlainWord}

module _ (text : List ℕ) where
  -- the first place from `from` on, and before `to`, at which a word begins
  pub record IsFirstWordStart (from to start : ℕ) : Type 0 where
    pub from_le_start : from ≤ start
    pub start_lt_to : start < to
    pub begins : begins_word text start ≡ true
    pub none_before_start : (i : ℕ) → from ≤ i → i < start → begins_word text i ≡ false

  -- The scanner has taken the word that begins at `start`. This isn't before the scanner's block of
  -- 64 bytes, which begins at `base`. The scanner goes on at `from`, the place after `start`.
  pub record IsTaken (base from start : ℕ) : Type 0 where
    pub from_is_next : from ≡ start + 1
    pub base_le_start : base ≤ start
    pub start_lt_length : start < length text
    pub begins : begins_word text start ≡ true

  -- no word begins after `start` and before `from`, which is a later place
  pub record IsPassed (start from : ℕ) : Type 0 where
    pub start_lt_from : start < from
    pub none_between : (i : ℕ) → start < i → i < from → begins_word text i ≡ false

  -- the word that begins at `start`; if `known_plain` is true, it is plain
  pub record IsWordFrom (start : ℕ) (word : Word) (known_plain : Bool) : Type 0 where
    pub start_is : word.start ≡ start
    pub is_word : IsWord text word
    pub is_plain : known_plain ≡ true → IsPlainWord (bytes_of text word)

  -- the words that begin from `from` on and before `upto` are plain
  abbrev pub ArePlain : ℕ → ℕ → Type 0
  ArePlain from upto =
      (i : ℕ) → from ≤ i → i < upto → begins_word text i ≡ true
      → IsPlainWord (bytes_of text (word_at text i))
