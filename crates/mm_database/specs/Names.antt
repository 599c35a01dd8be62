-- The names that the code knows.
use Rattle.std.specs.Prelude.{ℕ, Bool, true, false, ◌&&◌, not, List, Option, None, Some}
use Rattle.std.specs.Prelude.{bytes_eq, map, [], ◌∷◌, ◌++◌, if◌then◌else◌}
use Rattle.std.specs.Map.{keys_of, lookup}
use Rattle.mm_spec.specs.Text.{is_in}
use Rattle.mm_database.specs.declared.name.Name.{Name}
use Rattle.mm_database.specs.declared.names.SymbolEntry.{SymbolEntry}

module _ {V : Type 0} where
  -- what a word stands for, by a list of names
  abbrev pub find : List (Name × V) → List ℕ → Option V
  find es w = lookup (λ k. bytes_eq w k.bytes.now) es

  -- the names of the list, in order
  abbrev pub names_of : List (Name × V) → List (List ℕ)
  names_of es = map (λ k. k.bytes.now) (keys_of es)

abbrev pub is_constant_in : Option SymbolEntry → Bool
is_constant_in None = false
is_constant_in (Some s) = not s.is_variable

abbrev pub is_variable_in : Option SymbolEntry → Bool
is_variable_in None = false
is_variable_in (Some s) = s.is_variable

-- the names with one more, if it is new
abbrev pub with_name : List ℕ → List (List ℕ) → List (List ℕ)
with_name w ns = if is_in w ns then ns else (ns ++ w ∷ [])

-- no name occurs twice
abbrev pub are_distinct : List (List ℕ) → Bool
are_distinct [] = true
are_distinct (n ∷ ns) = not (is_in n ns) && are_distinct ns

-- the symbols in the order of their first declarations, each with what is known of it, and the
-- labels, each with its statement
pub record KnownNames : Type 0 where
  pub symbols : List (Name × SymbolEntry)
  pub labels : List (Name × ℕ)

abbrev pub known_names : List (Name × SymbolEntry) → List (Name × ℕ) → KnownNames
known_names symbols labels = record { symbols = symbols; labels = labels }
