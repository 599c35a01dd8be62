-- The tokens of a text (Metamath book, "Preliminaries" and "Preprocessing"), and its lexical fault
-- (this project's own).
use Rattle.std.specs.Prelude.{ℕ, List, [], length, nat_lt, map, if◌then◌else◌, Option, Some, None}
use Rattle.mm_spec.specs.Words.{words_of}
use Rattle.mm_spec.specs.Readings.{bytes_of, reading}
use Rattle.mm_spec.specs.Text.{Token, token}
use Rattle.mm_spec.specs.declared.Word.{Word}
use Rattle.mm_spec.specs.declared.Fault.{Fault}
use Rattle.mm_spec.specs.declared.Code.TheVariants.{TextTooLong, OpenComment}
use Rattle.mm_spec.specs.Limits.{text_limit}

-- the fault of a faulty word if there is one, otherwise that of a comment open at the end (E03)
abbrev pub fault_in : Option Fault → Option ℕ → Option Fault
fault_in (Some f) open_comment = Some f
fault_in None (Some at) = Some (record { at = at; code = OpenComment })
fault_in None None = None

unfoldable pub tokens_of : List ℕ → List Word
tokens_of text =
    if nat_lt text_limit (length text) then [] else (reading text None (words_of text)).tokens

-- the first fault of bytes and words; a text that is too long has only that fault (E00)
unfoldable pub lexical_fault : List ℕ → Option Fault
lexical_fault text =
    if nat_lt text_limit (length text) then Some (record { at = 0; code = TextTooLong })
    else fault_in (reading text None (words_of text)).fault
    (reading text None (words_of text)).open_comment

-- the tokens of a text up to its lexical fault, and that fault
pub record LexedText : Type 0 where
  pub tokens : List Token
  pub fault : Option Fault

-- the tokens of a text with their places, up to its lexical fault, and that fault
abbrev pub lexed_of : List ℕ → LexedText
lexed_of text =
    record {
      tokens = map (λ w. token w.start (bytes_of text w)) (tokens_of text);
      fault = lexical_fault text;
    }
