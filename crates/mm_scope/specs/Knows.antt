-- What is known of words as symbols and as labels is what the definitions say of them; and what is
-- wrong with the words of a `$c`, `$v`, `$d` or `$f`.
use Rattle.std.specs.Prelude.{◌≡◌, ℕ, Bool, true, false, ◌&&◌, not, List, Option, None, Some}
use Rattle.std.specs.Prelude.{bytes_eq, is_some, nat_eq}
use Rattle.mm_spec.specs.Text.{Bytes, is_in, fault}
use Rattle.mm_spec.specs.Scope.{Names}
use Rattle.mm_spec.specs.Lawful.{is_typed, is_typed_otherwise, constant_codes, variable_codes}
use Rattle.mm_spec.specs.Lawful.{disjoint_codes}
use Rattle.mm_spec.specs.declared.Fault.{Fault}
use Rattle.mm_spec.specs.declared.Code.{Code}
use Rattle.mm_spec.specs.declared.Code.TheVariants.{BadFloating}
use Rattle.mm_outline.specs.Blocks.{never}
use Rattle.mm_outline.specs.declared.parts.Kind.{Kind}
use Rattle.mm_outline.specs.declared.parts.Kind.TheVariants.{Constants, Variables, Disjoint}
use Rattle.mm_database.specs.Names.{is_constant_in, is_variable_in}
use Rattle.mm_database.specs.declared.names.SymbolEntry.{SymbolEntry}

-- whether what is known of a word makes it a variable that is active, that has an active `$f`, or
-- that an earlier `$f` gave another typecode, by which statements are in open blocks
module _ (is_open : ℕ → Bool) where
  abbrev pub is_active_symbol : SymbolEntry → Bool
  is_active_symbol s = s.is_variable && is_open s.declaration

  abbrev pub is_active_variable : Option SymbolEntry → Bool
  is_active_variable None = false
  is_active_variable (Some s) = is_active_symbol s

  abbrev pub is_typed_here : Option SymbolEntry → Bool
  is_typed_here None = false
  is_typed_here (Some s) = is_open s.typing

abbrev pub has_other_typecode : Bytes → Option SymbolEntry → Bool
has_other_typecode c None = false
has_other_typecode c (Some s) = not (nat_eq s.typing never) && not (bytes_eq c s.typecode.now)

-- the names are those that are known: `look` says what is known of a word as a symbol, `labels` the
-- statement of a label, and `is_open` whether the block of a statement is open
pub record Knows (n : Names) (look : Bytes → Option SymbolEntry) (labels : Bytes → Option ℕ)
    (is_open : ℕ → Bool) : Type 0 where
  pub constants : (w : Bytes) → is_in w n.constants ≡ is_constant_in (look w)
  pub all_variables : (w : Bytes) → is_in w n.all_variables ≡ is_variable_in (look w)
  pub active_variables : (w : Bytes)
      → is_in w n.active_variables ≡ is_active_variable is_open (look w)
  pub labels_known : (w : Bytes) → is_in w n.labels ≡ is_some (labels w)
  pub typed : (w : Bytes) → is_active_variable is_open (look w) ≡ true
      → is_typed n w ≡ is_typed_here is_open (look w)
  pub other_typecode : (c w : Bytes) → is_active_variable is_open (look w) ≡ true
      → is_typed_otherwise n c w ≡ has_other_typecode c (look w)

-- ---- faults of words

-- the fault with a code at a place, if there is a code
abbrev pub fault_at : ℕ → Option Code → Option Fault
fault_at place None = None
fault_at place (Some code) = Some (fault place code)

-- the fault of a `$f`, by the places of its keyword and of its variable: its symbols aren't a
-- constant and an active variable (`None`), or the code says what is wrong with the constant as the
-- type of the variable, if anything is
abbrev pub typing_fault : ℕ → ℕ → Option (Option Code) → Option Fault
typing_fault keyword_place variable_place None = Some (fault keyword_place BadFloating)
typing_fault keyword_place variable_place (Some code) = fault_at variable_place code

-- whether a statement is a `$c`, `$v` or `$d`
abbrev pub lists_symbols : Kind → Bool
lists_symbols Constants = true
lists_symbols Variables = true
lists_symbols Disjoint = true
lists_symbols _ = false

-- what is wrong with a word of a `$c`, `$v` or `$d`, by the words before it
abbrev pub listed_codes : Names → Kind → List Bytes → Bytes → List Code
listed_codes n Constants = constant_codes n
listed_codes n Variables = variable_codes n
listed_codes n _ = disjoint_codes n
