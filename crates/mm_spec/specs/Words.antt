-- The words of a text: its longest runs of bytes that aren't white space, each by its places
-- (Metamath book, "Preliminaries").
use Rattle.std.specs.Prelude.{ℕ, ◌+◌, ◌-◌, ◌==◌, ◌||◌, ◌&&◌, Bool, not, List, map, length}
use Rattle.std.specs.Prelude.{slice_index, drop}
use Rattle.std.specs.List.{filter, prefix_len, range_with_len}
use Rattle.mm_spec.specs.Bytes.{is_white}
use Rattle.mm_spec.specs.declared.Word.{Word}

-- whether the byte at the place is white space
unfoldable pub white_at : List ℕ → ℕ → Bool
white_at text i = is_white (slice_index text i)

-- whether a word begins there: the byte isn't white space, and before it is white space or nothing
unfoldable pub begins_word : List ℕ → ℕ → Bool
begins_word text i = not (white_at text i) && (i == 0 || white_at text (i - 1))

-- the word that begins at the place: up to the next white-space byte, or to the end of the text
unfoldable pub word_at : List ℕ → ℕ → Word
word_at text i = record { start = i; end = i + prefix_len (λ b. not (is_white b)) (drop i text) }

-- the words that begin at the places from `from` up to `to`
unfoldable pub words_between : List ℕ → ℕ → ℕ → List Word
words_between text from to =
    map (word_at text) (filter (begins_word text) (range_with_len from (to - from)))

-- the words of the text (compare `AreWords` in `Laws`)
abbrev pub words_of : List ℕ → List Word
words_of text = words_between text 0 (length text)
