-- The tokens and the lexical fault of a text by its words and the grammar (Metamath book,
-- "Preliminaries" and "Preprocessing").
use Rattle.std.specs.Prelude.{◌≡◌, ◌<◌, ◌≤◌, ℕ, List, [], length, Option, Some}
use Rattle.mm_spec.specs.Laws.Words.{AreWords}
use Rattle.mm_spec.specs.Readings.{Reading}
use Rattle.mm_spec.specs.Lexed.{fault_in}
use Rattle.mm_spec.specs.declared.Word.{Word}
use Rattle.mm_spec.specs.declared.Fault.{Fault}
use Rattle.mm_spec.specs.declared.Code.TheVariants.{TextTooLong}
use Rattle.mm_spec.specs.Limits.{text_limit}
use Rattle.mm_laws.specs.Grammar.{IsReading}

-- What the tokens and the fault of a text are, in terms of its words and the grammar alone.
pub record IsLexed (text : List ℕ) (tokens : List Word) (fault : Option Fault) : Type 0 where
  pub long_text_is_refused : text_limit < length text
      → (tokens ≡ []) × (fault ≡ Some (record { at = 0; code = TextTooLong }))
  pub short_text_is_read : length text ≤ text_limit → (ws : List Word) → AreWords text ws
      → (r : Reading) × IsReading text ws r × (tokens ≡ r.tokens)
      × (fault ≡ fault_in r.fault r.open_comment)
