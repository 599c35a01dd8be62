-- Tokens and comments, as a grammar: what a reading of words stands for (Metamath book,
-- "Preliminaries" and "Preprocessing").
use Rattle.std.specs.Prelude.{◌≡◌, ℕ, List, [], ◌∷◌, ◌++◌, Option, Some, None, IsTrue, ⊤, is_some}
use Rattle.std.specs.List.{flat_map, AllByRecursion}
use Rattle.std.specs.Option.{option_map}
use Rattle.mm_spec.specs.Roles.{is_token, opens_comment, closes_comment, is_comment_word, fault_of}
use Rattle.mm_spec.specs.Readings.{Reading, bytes_of}
use Rattle.mm_spec.specs.declared.Word.{Word}
use Rattle.mm_spec.specs.declared.Fault.{Fault}

-- a token, or a comment: `$(`, words, `$)`
pub data Lexeme : Type 0 where
  Single : (token : Word) → Lexeme
  Comment : (opening : Word) (words : List Word) (closing : Word) → Lexeme

-- a comment that is open at the end: its `$(`, and the words after that
pub record UnclosedComment : Type 0 where
  pub opening : Word
  pub words : List Word

-- such a comment, or none
abbrev pub LastComment : Type 0
LastComment = Option UnclosedComment

-- each word is one that a comment may have
abbrev pub AreCommentWords : List ℕ → List Word → Type 0
AreCommentWords text ws = AllByRecursion (λ w. IsTrue (is_comment_word (bytes_of text w))) ws

abbrev pub IsLexeme : List ℕ → Lexeme → Type 0
IsLexeme text (Single w) = IsTrue (is_token (bytes_of text w))
IsLexeme text (Comment o ws c) =
    IsTrue (opens_comment (bytes_of text o)) × AreCommentWords text ws
    × IsTrue (closes_comment (bytes_of text c))

abbrev pub IsLastComment : List ℕ → LastComment → Type 0
IsLastComment text None = ⊤
IsLastComment text (Some c) =
    IsTrue (opens_comment (bytes_of text c.opening)) × AreCommentWords text c.words

-- the words of a token or a comment, its `$(` and `$)` included
abbrev pub words_in : Lexeme → List Word
words_in (Single w) = w ∷ []
words_in (Comment o ws c) = o ∷ (ws ++ c ∷ [])

abbrev pub words_in_last_comment : LastComment → List Word
words_in_last_comment None = []
words_in_last_comment (Some c) = c.opening ∷ c.words

-- the tokens among them
abbrev pub tokens_in : Lexeme → List Word
tokens_in (Single w) = w ∷ []
tokens_in (Comment o ws c) = []

-- The words are a list of tokens and comments, at the end of which a comment may be open. `tokens`
-- are the tokens, and `open_comment` is the place where that comment begins, if there is one.
pub record IsWellBegun (text : List ℕ) (ws : List Word) (tokens : List Word)
    (open_comment : Option ℕ) : Type 0 where
  pub lexemes : List Lexeme
  pub last_comment : LastComment
  pub are_lexemes : AllByRecursion (IsLexeme text) lexemes
  pub is_last_comment : IsLastComment text last_comment
  pub words_are : ws ≡ flat_map words_in lexemes ++ words_in_last_comment last_comment
  pub tokens_are : tokens ≡ flat_map tokens_in lexemes
  pub comment_start_is : open_comment ≡ option_map (λ c. c.opening.start) last_comment

-- w is the first word such that the words up to and including it aren't well begun: those before it
-- are, with these tokens and this open comment, and with it they aren't.
pub record IsFirstFaultyWord (text : List ℕ) (ws : List Word) (w : Word) (tokens : List Word)
    (open_comment : Option ℕ) : Type 0 where
  pub words_before : List Word
  pub words_after : List Word
  pub words_split : ws ≡ words_before ++ w ∷ words_after
  pub is_well_begun : IsWellBegun text words_before tokens open_comment
  pub not_well_begun : (ts : List Word) (c : Option ℕ) → IsWellBegun text (words_before ++ w ∷ [])
      ts c → ⊥

-- what a reading of the words stands for
pub record IsReading (text : List ℕ) (ws : List Word) (r : Reading) : Type 0 where
  -- without a fault the words are well begun, and in one way
  pub well_begun_without_fault : r.fault ≡ None → IsWellBegun text ws r.tokens r.open_comment
  pub is_only_reading : (ts : List Word) (c : Option ℕ) → IsWellBegun text ws ts c
      → r ≡ record { tokens = ts; fault = None; open_comment = c }
  -- a fault is that of the first faulty word, and the tokens are those before it
  pub fault_is_first : (f : Fault) → r.fault ≡ Some f
      → (w : Word) × IsFirstFaultyWord text ws w r.tokens r.open_comment
      × (f ≡ fault_of (is_some r.open_comment) w.start (bytes_of text w))
