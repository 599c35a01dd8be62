-- What is read of a text, and what is kept of its statements by their outlines alone.
use Rattle.std.specs.Prelude.{◌≡◌, ◌<◌, ◌^◌, ℕ, Bool, List, All, Option, None, length, map, take}
use Rattle.mm_spec.specs.declared.Fault.{Fault}
use Rattle.mm_spec.specs.declared.Word.{Word}
use Rattle.mm_spec.specs.Lexed.{lexical_fault}
use Rattle.mm_spec.specs.Output.{IsRead}
use Rattle.mm_spec.specs.Opened.{open_as_axioms}
use Rattle.mm_outline.specs.Parts.{AreWithin, IsOutline}
use Rattle.mm_outline.specs.Tokens.{AreTokens}
use Rattle.mm_outline.specs.Statements.{lexed, statements}
use Rattle.mm_outline.specs.declared.parts.Outline.{Outline}
use Rattle.mm_database.specs.Database.{AreStatementLists}
use Rattle.mm_database.specs.RetainedWords.{retained_words}
use Rattle.mm_scope.specs.Formulas.{AreNumbersOf}
use Rattle.mm_scope.specs.Outlines.{AreOutlinesFrom}
use Rattle.mm_scope.specs.ReadSoFar.{IsReadSoFar, read_so_far}
use Rattle.mm_scope.specs.declared.outlines.Rest.{Rest}
use Rattle.mm_scope.specs.declared.reading.Outlined.{Outlined}
use Rattle.mm_stmt.specs.declared.listed.Listed.{Listed}

-- the outlines lie within the words of the text, and are few
pub record CanList (text : List ℕ) (ws : List Word) (os : List Outline) : Type 0 where
  pub words_are_within : AreWithin text ws
  pub are_outlines : All (λ o. IsOutline o × (o.end < length ws)) os
  pub few_outlines : length os < 2 ^ 31

-- the words are tokens of the text, which has few of them and few bytes, and these are the outlines
-- that are found of their statements, and the numbers of their symbols
pub record CanRead (text : List ℕ) (ws : List Word) (fault : Option Fault) (os : List Outline)
    (rest : Rest) (numbers : List ℕ) : Type 0 where
  pub words_are_within : AreWithin text ws
  pub are_tokens : AreTokens text ws
  pub few_tokens : length ws < 2 ^ 31
  pub few_bytes : fault ≡ None → length text < 2 ^ 31
  pub are_found : AreOutlinesFrom text ws 0 0 os rest
  pub are_numbers : AreNumbersOf (statements text ws os) numbers

module _ {A : Type 0} where
  -- this was read of the text, whose statements have these outlines
  pub record IsReadOf (text : List ℕ) (ws : List Word) (fault : Option Fault) (os : List Outline)
      (d : Outlined A) : Type 0 where
    pub few_outlines : length d.outlines.items < 2 ^ 31
    pub are_first : d.outlines.items ≡ take (length d.outlines.items) os
    pub is_read_so_far : IsReadSoFar (statements text ws d.outlines.items) (read_so_far d)
    pub fault_is_read : IsRead (length text) (lexed text ws fault)
        (statements text ws d.outlines.items) d.fault

  -- these are the lists of the statements of all outlines
  pub record IsListed (text : List ℕ) (ws : List Word) (os : List Outline) (with_open : Bool)
      (l : Listed A) : Type 0 where
    pub lists_are : AreStatementLists (open_as_axioms with_open (statements text ws os))
        l.statement_lists
    pub words_are : l.retained_words ≡ map (retained_words ws) os

  -- this was read of the text, and its statements are listed
  pub record IsReadWith (text : List ℕ) (ws : List Word) (with_open : Bool) (d : Outlined A)
      (l : Listed A) : Type 0 where
    pub few_outlines : length d.outlines.items < 2 ^ 31
    pub are_outlines : All (λ o. IsOutline o × (o.end < length ws)) d.outlines.items
    pub is_read_so_far : IsReadSoFar (statements text ws d.outlines.items) (read_so_far d)
    pub fault_is_read : IsRead (length text) (lexed text ws (lexical_fault text))
        (statements text ws d.outlines.items) d.fault
    pub is_listed : IsListed text ws d.outlines.items with_open l
