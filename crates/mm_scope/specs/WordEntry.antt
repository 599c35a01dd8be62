-- What is known of each word after some statements.
use Rattle.std.specs.Prelude.{◌≡◌, ◌≢◌, ℕ, ◌<◌, Bool, true, false, ◌&&◌, not, List, [], ◌∷◌, length}
use Rattle.std.specs.Prelude.{flat_map, nat_eq, bytes_eq, Option, None, Some, if◌then◌else◌}
use Rattle.std.specs.List.{list_any}
use Rattle.mm_spec.specs.Text.{Bytes, Token, is_in, words}
use Rattle.mm_spec.specs.Statement.{Statement, constants, variables, floating}
use Rattle.mm_spec.specs.Scope.{Typing, active_at, constants_of, variables_of, typings_of}
use Rattle.mm_outline.specs.Blocks.{never}
use Rattle.mm_outline.specs.Typed.{has_word, typed_words}
use Rattle.mm_database.specs.declared.names.SymbolEntry.{SymbolEntry}

-- what is known of a symbol: whether it is a variable, the statement that declared it last, the
-- last `$f` that typed it, or `never`, and its typecode, as bytes; as long as no `$f` has typed it,
-- the symbol itself stands for that
pub record WordEntry : Type 0 where
  pub is_variable : Bool
  pub declaration : ℕ
  pub typing : ℕ
  pub typecode : List ℕ

abbrev pub entry : Bool → ℕ → ℕ → List ℕ → WordEntry
entry is_variable declaration typing typecode = record {
  is_variable = is_variable;
  declaration = declaration;
  typing = typing;
  typecode = typecode;
}

abbrev pub entry_of : Option SymbolEntry → Option WordEntry
entry_of None = None
entry_of (Some s) = Some (entry s.is_variable s.declaration s.typing s.typecode.now)

-- whether the typing gives the word another typecode
abbrev pub gives_other_typecode : Bytes → Bytes → Typing → Bool
gives_other_typecode typecode word typing =
    bytes_eq word typing.variable && not (bytes_eq typecode typing.typecode)

module _ (db : List Statement) (f : Statement → List Bytes) (w : Bytes) where
  -- the last statement that has the word among those that f gives, the only such statement that
  -- may be active
  pub record Latest (last : ℕ) : Type 0 where
    pub last_lt_length : last < length db
    pub last_has_word : has_word db f w last ≡ true
    pub active_is_last : (j : ℕ) → j < length db → has_word db f w j ≡ true
        → active_at db j (length db) ≡ true
        → j ≡ last

abbrev pub is_constant_entry : Option WordEntry → Bool
is_constant_entry None = false
is_constant_entry (Some e) = not e.is_variable

abbrev pub is_variable_entry : Option WordEntry → Bool
is_variable_entry None = false
is_variable_entry (Some e) = e.is_variable

-- the last declaration, the last `$f`, and its typecode
abbrev pub declared_by : Option WordEntry → ℕ
declared_by None = never
declared_by (Some e) = e.declaration

abbrev pub typed_by : Option WordEntry → ℕ
typed_by None = never
typed_by (Some e) = e.typing

abbrev pub typecode_by : Option WordEntry → List ℕ
typecode_by None = []
typecode_by (Some e) = e.typecode

-- the entry is what the statements say of the word
pub record IsEntryOf (db : List Statement) (w : Bytes) (x : Option WordEntry) : Type 0 where
  pub constant_is_known : is_in w (flat_map constants_of db) ≡ is_constant_entry x
  pub variable_is_known : is_in w (flat_map variables_of db) ≡ is_variable_entry x
  pub declaration_is_latest : is_variable_entry x ≡ true → Latest db variables_of w (declared_by x)
  pub typing_is_latest : typed_by x ≢ never → Latest db typed_words w (typed_by x)
  pub untyped_has_no_typing : typed_by x ≡ never → is_in w (flat_map typed_words db) ≡ false
  pub other_typecode : (c : Bytes)
      → list_any (gives_other_typecode c w) (flat_map typings_of db)
      ≡ (not (nat_eq (typed_by x) never) && not (bytes_eq c (typecode_by x)))

-- the entry after the symbol's declaration by a statement
abbrev pub declared_entry : Bool → ℕ → List ℕ → Option WordEntry → Option WordEntry
declared_entry is_variable statement word None = Some (entry is_variable statement never word)
declared_entry is_variable statement word (Some e) =
    Some (entry is_variable statement e.typing e.typecode)

-- the entry of a word after the declaration of words by a statement
abbrev pub after_declaring : Bool → ℕ → List (List ℕ) → List ℕ → Option WordEntry → Option WordEntry
after_declaring is_variable statement declared word old =
    if is_in word declared then declared_entry is_variable statement word old else old

-- the entry after a `$f`
abbrev pub typed_entry : ℕ → List ℕ → Option WordEntry → Option WordEntry
typed_entry statement typecode None = None
typed_entry statement typecode (Some e) =
    Some (entry e.is_variable e.declaration statement typecode)

-- the entry of a word after the `$f` of a variable, by the entries before it
abbrev pub after_typing : ℕ → List ℕ → List ℕ → (List ℕ → Option WordEntry) → List ℕ
    → Option WordEntry
after_typing statement typecode variable entries w =
    if bytes_eq variable w then typed_entry statement typecode (entries variable) else entries w

-- the entry of a word after statement n, and the statement of a label after it
abbrev pub typed_after : ℕ → List Token → Bytes → Option WordEntry → Option WordEntry
typed_after n (c ∷ v ∷ []) w x = if bytes_eq v.word w then typed_entry n c.word x else x
typed_after n _ w x = x

abbrev pub entry_after : ℕ → Statement → Bytes → Option WordEntry → Option WordEntry
entry_after n (constants k xs d) w x = after_declaring false n (words xs) w x
entry_after n (variables k xs d) w x = after_declaring true n (words xs) w x
entry_after n (floating l k xs d) w x = typed_after n xs w x
entry_after n _ w x = x

abbrev pub label_after : ℕ → Option Token → Bytes → Option ℕ → Option ℕ
label_after n None w o = o
label_after n (Some l) w o = if bytes_eq l.word w then Some n else o
