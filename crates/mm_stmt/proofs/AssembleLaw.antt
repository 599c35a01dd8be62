-- What the reading of a text gives is a database.
use Rattle.std.proofs.Common.{◌≡◌, ℕ, ◌<◌, ◌^◌, List, length, Option, ap, ap₂, subst, arith}
use Rattle.std.proofs.lemmas.List.{length-map}
use Rattle.mm_spec.specs.declared.Word.{Word}
use Rattle.mm_spec.specs.declared.Fault.{Fault}
use Rattle.mm_spec.specs.Frame.{symbol_names}
use Rattle.mm_spec.specs.Lexed as spec
use Rattle.mm_spec.specs.Lexed.{lexed_of}
use Rattle.mm_spec.specs.Output.{IsRead}
use Rattle.mm_outline.specs.Blocks.{BlockLists}
use Rattle.mm_outline.specs.Parts.{statement_of, token_of}
use Rattle.mm_outline.specs.Statements.{lexed, statements}
use Rattle.mm_scope.specs.ReadSoFar.{KnowsStatements}
use Rattle.mm_database.specs.ParsedStatements.{IsSound}
use Rattle.mm_database.specs.declared.names.SymbolEntry.{SymbolEntry}
use Rattle.mm_outline.specs.declared.parts.Outline.{Outline}
use Rattle.mm_scope.proofs.BoundsLaw.{symbols_le_tokens}
use Rattle.mm_stmt.proofs.SoundLaw.{read_is_sound}

-- the words lent are those of the text
pub lent_words_are_read : (text : List ℕ) (ws vs : List Word) (os : List Outline)
    (lexical fault : Option Fault)
    → ws ≡ vs → vs ≡ spec.tokens_of text → lexical ≡ spec.lexical_fault text
    → IsRead (length text) (lexed text ws lexical) (statements text ws os) fault
    → IsRead (length text) (lexed_of text) (statements text vs os) fault
lent_words_are_read text ws vs os lexical fault words_are words_are_tokens lexical_is
    is_read_there =
    subst (λ x. IsRead (length text) x (statements text vs os) fault)
    (ap₂ (lexed text) words_are_tokens lexical_is)
    (subst (λ us. IsRead (length text) (lexed text us lexical) (statements text us os) fault)
    words_are is_read_there)

module _ (text : List ℕ) (ws : List Word) (os : List Outline) (lexical fault : Option Fault)
    (is_read_here : IsRead (length text) (lexed text ws lexical) (statements text ws os) fault)
    (words_lt_2_31 : length ws < 2 ^ 31) where
  -- there are few symbols
  pub names_lt_2_31 : (names : List (List ℕ)) → names ≡ symbol_names (statements text ws os)
      → length names < 2 ^ 31
  names_lt_2_31 names names_are =
      let lengths_equal = ap length names_are in
      let symbols_are_few =
      symbols_le_tokens (lexed text ws lexical).tokens is_read_here.are_statements.rest
      is_read_here.statements
      is_read_here.are_statements.splits
      (statements text ws os) is_read_here.rest is_read_here.splits in
      let token_count_is = length-map ws (token_of text) in
      omega (arith, lengths_equal, symbols_are_few, token_count_is, words_lt_2_31)

  -- they are sound
  pub statements_are_sound : (look : List ℕ → Option SymbolEntry) (labels : List ℕ → Option ℕ)
      (b : BlockLists)
      → KnowsStatements (statements text ws os) look labels b → length os < 2 ^ 31
      → IsSound (statements text ws os)
  statements_are_sound look labels b knows outlines_are_few =
      let statement_count_is = length-map os (statement_of text ws) in
      read_is_sound (length text) (lexed text ws lexical)
      (statements text ws os) fault is_read_here look labels b knows
      (omega (arith, statement_count_is, outlines_are_few))
