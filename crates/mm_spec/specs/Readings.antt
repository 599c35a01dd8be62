-- Words read as tokens and comments (Metamath book, "Preliminaries" and "Preprocessing").
use Rattle.std.specs.Prelude.{ℕ, List, [], ◌∷◌, ◌++◌, Option, Some, None, is_some, slice_range}
use Rattle.mm_spec.specs.Roles.{role_of, fault_of}
use Rattle.mm_spec.specs.declared.Word.{Word}
use Rattle.mm_spec.specs.declared.Fault.{Fault}
use Rattle.mm_spec.specs.declared.Role.TheVariants.{Token, Opening, Closing, Comment, Faulty}

-- the bytes of a word
abbrev pub bytes_of : List ℕ → Word → List ℕ
bytes_of text w = slice_range text w.start w.end

-- What a list of words gives: the tokens before its first faulty word and the fault of that word,
-- or all its tokens if no word is faulty; and the place of the comment that is open there, if any.
pub record Reading : Type 0 where
  pub tokens : List Word
  pub fault : Option Fault
  pub open_comment : Option ℕ

abbrev pub with_tokens : List Word → Reading → Reading
with_tokens ts r = record r { tokens = ts ++ r.tokens }

-- the words read in order; `open_comment` is the place of the comment that is open before them, if
-- one is
unfoldable pub reading : List ℕ → Option ℕ → List Word → Reading
reading text open_comment [] = record { tokens = []; fault = None; open_comment = open_comment }
reading text open_comment (w ∷ ws) = elim (role_of (is_some open_comment) (bytes_of text w)) [
  | Token ↦ with_tokens (w ∷ []) (reading text open_comment ws)
  | Opening ↦ reading text (Some w.start) ws
  | Closing ↦ reading text None ws
  | Comment ↦ reading text open_comment ws
  | Faulty ↦ record {
    tokens = [];
    fault = Some (fault_of (is_some open_comment) w.start (bytes_of text w));
    open_comment = open_comment;
  }
]
