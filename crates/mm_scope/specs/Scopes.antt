-- What a scope says of words, of statements and of the names before the next statement.
use Rattle.std.specs.Prelude.{◌≡◌, ◌<◌, ◌+◌, ℕ, List, [], ◌∷◌, ◌++◌, length, Option, None, true}
use Rattle.std.specs.Prelude.{slice_get}
use Rattle.mm_spec.specs.Text.{Token, words}
use Rattle.mm_spec.specs.Statement.{Statement, is_closing}
use Rattle.mm_spec.specs.Scope.{Names, names_before, depth, constants_of, variables_of}
use Rattle.mm_spec.specs.Lawful.{faults_at, least, scope_faults}
use Rattle.mm_spec.specs.declared.Code.{Code}
use Rattle.mm_spec.specs.declared.Fault.{Fault}
use Rattle.mm_spec.specs.declared.Word.{Word}
use Rattle.mm_spec.specs.Frame.{first_occurrences, index_of}
use Rattle.mm_outline.specs.Blocks.{is_open_in}
use Rattle.mm_outline.specs.Parts.{AreWithin, IsOutline, between}
use Rattle.mm_outline.specs.declared.parts.Outline.{Outline}
use Rattle.mm_database.specs.Names.{find, names_of}
use Rattle.mm_database.specs.declared.names.SymbolEntry.{SymbolEntry}
use Rattle.mm_scope.specs.declared.scope.Scope.{Scope}
use Rattle.mm_scope.specs.Formulas.{AreNumbersOnward}
use Rattle.mm_scope.specs.Knows.{Knows, fault_at}
use Rattle.mm_scope.specs.WordEntry.{WordEntry, entry_of}
use Rattle.mm_scope.specs.ReadSoFar.{KnowsStatements}

-- the outline is that of a whole statement among these tokens of a text
pub record IsOutlineAmong (text : List ℕ) (tokens : List Word) (o : Outline) : Type 0 where
  pub words : AreWithin text tokens
  pub outline : IsOutline o
  pub end_lt_length : o.end < length tokens

-- the words of a statement from its keyword to its end
abbrev pub listed_words : List ℕ → List Word → Outline → List (List ℕ)
listed_words text tokens o = words (between text tokens (o.keyword + 1) o.middle)

-- the words that a statement declares
abbrev pub declared_words : Statement → List (List ℕ)
declared_words s = constants_of s ++ variables_of s

-- the statement is lawful after these, and closes no block that isn't open
abbrev pub MayFollow : List Statement → Statement → Type 0
MayFollow db s =
    (least (scope_faults (names_before db (length db)) (depth db (length db)) s) ≡ None)
    × (is_closing s ≡ true → 0 < depth db (length db))

-- what is known of each symbol stands at its number, and nothing behind that
pub record AreKnownAt (names : List (List ℕ)) (look : List ℕ → Option SymbolEntry)
    (known : List SymbolEntry) : Type 0 where
  pub count : length known ≡ length names
  pub entry : (w : List ℕ) → look w ≡ slice_get known (index_of w names)

module _ {A : Type 0} where
  -- what is known of a word as a symbol, the statement of a label, and the names of the symbols
  abbrev pub symbol_in : Scope A → List ℕ → Option SymbolEntry
  symbol_in s = find s.names.symbols

  abbrev pub word_entry_in : Scope A → List ℕ → Option WordEntry
  word_entry_in s w = entry_of (symbol_in s w)

  abbrev pub label_in : Scope A → List ℕ → Option ℕ
  label_in s = find s.names.labels

  abbrev pub names_in : Scope A → List (List ℕ)
  names_in s = names_of s.names.symbols

  -- what is known of each symbol stands at its number
  abbrev pub AreKnown : Scope A → Type 0
  AreKnown s =
      AreKnownAt (names_in s) (symbol_in s) s.known.items

  -- the scope is that after these statements
  abbrev pub IsScopeAfter : List Statement → Scope A → Type 0
  IsScopeAfter db s = KnowsStatements db (symbol_in s) (label_in s) s.blocks

  -- the scope after one more statement, if that may follow
  abbrev pub IsNextScope : Scope A → Scope A → Statement → Type 0
  IsNextScope old new s =
      (db : List Statement) → IsScopeAfter db old → MayFollow db s
      → IsScopeAfter (db ++ s ∷ []) new

  -- the names before the next statement are those that the scope knows
  abbrev pub AreNamesOf : Scope A → Names → Type 0
  AreNamesOf s n = Knows n (symbol_in s) (label_in s) (is_open_in s.blocks)

  -- a fault is the least of those that a rule gives by the names before the next statement
  abbrev pub IsLeastFault : Scope A → (Names → List Fault) → Option Fault → Type 0
  IsLeastFault s rule found = (n : Names) → AreNamesOf s n → found ≡ least (rule n)

  -- a code is that of the least fault, wherever the codes of the rule are found
  abbrev pub IsLeastCode : Scope A → (Names → List Code) → Option Code → Type 0
  IsLeastCode s rule found =
      (place : ℕ) → IsLeastFault s (λ n. faults_at place (rule n)) (fault_at place found)

  -- if the symbols were the words d, each once, they are now these and the words ws
  abbrev pub Declares : Scope A → Scope A → List (List ℕ) → Type 0
  Declares old new ws =
      (d : List (List ℕ)) → names_in old ≡ first_occurrences [] d
      → names_in new ≡ first_occurrences [] (d ++ ws)

  -- the numbers of tokens by names that begin with those of the scope and then the words ws
  abbrev pub AreNumbersAfter : Scope A → List (List ℕ) → List Token → List ℕ → Type 0
  AreNumbersAfter s ws ts numbers =
      (d : List (List ℕ)) × (names_in s ≡ first_occurrences [] d)
      × AreNumbersOnward (first_occurrences [] (d ++ ws)) ts numbers
