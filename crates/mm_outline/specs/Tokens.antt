-- What holds for the tokens of a text: none is empty, and one that has a `$` begins with it.
use Rattle.std.specs.Prelude.{◌≡◌, ℕ, ◌<◌, ◌≤◌, ◌==◌, List, length, slice_index, slice_range, All}
use Rattle.mm_spec.specs.Text.{has_dollar}
use Rattle.mm_spec.specs.declared.Word.{Word}

-- the word isn't empty, and its first byte shows whether it has a `$`
abbrev pub FirstByteShowsDollar : List ℕ → Type 0
FirstByteShowsDollar word = (0 < length word) × (has_dollar word ≡ (slice_index word 0 == 0x24))

-- the words are within the text, and the first byte of each shows whether it has a `$`
abbrev pub AreTokens : List ℕ → List Word → Type 0
AreTokens text ws =
    All (λ w. (w.start ≤ w.end) × (w.end ≤ length text)
    × FirstByteShowsDollar (slice_range text w.start w.end)) ws
