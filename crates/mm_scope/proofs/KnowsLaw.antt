-- What the code knows of each word is what the judge asks for.
use Rattle.std.proofs.Common.{rules, ◌≡◌, ℕ, zero, suc, ◌<◌, ◌≤◌, Bool, true, false, ◌&&◌, not}
use Rattle.std.proofs.Common.{List, [], ◌∷◌, length, flat_map, bytes_eq, nat_eq, Option, None, Some}
use Rattle.std.proofs.Common.{refl, ◌∙◌, arith, inl, inr, le_refl, take_all, ◌^◌}
use Rattle.std.proofs.lemmas.Grind.{common_steps}
use Rattle.std.proofs.lemmas.Bool.Decides.{nat_tests}
use Rattle.mm_spec.specs.Scope.{Names, names_before, active_statements, variables_of}
use Rattle.mm_spec.specs.Lawful.{least}
use Rattle.mm_spec.specs.declared.Fault.{Fault}
use Rattle.std.proofs.lemmas.List.Folds.{list_any-append}
use Rattle.std.proofs.lemmas.Option.{slice_get_past}
use Rattle.std.proofs.lemmas.Bool.{cases_eq}
use Rattle.std.proofs.Math.Bool.{and-false}
use Rattle.mm_spec.specs.Text.{Bytes, is_in}
use Rattle.mm_spec.specs.Statement.{Statement}
use Rattle.mm_outline.specs.Blocks.{BlockLists, IsBlocks, never, is_open_in}
use Rattle.mm_scope.specs.Knows as judge
use Rattle.mm_scope.specs.Knows.{Knows, has_other_typecode, is_typed_here}
use Rattle.mm_scope.specs.WordEntry.{entry_of, IsEntryOf, typed_by, typecode_by, is_constant_entry}
use Rattle.mm_scope.specs.WordEntry.{is_variable_entry}
use Rattle.mm_outline.specs.Typed.{has_word, typed_words}
use Rattle.mm_scope.specs.ReadSoFar.{KnowsStatements}
use Rattle.mm_database.specs.Names.{is_constant_in, is_variable_in}
use Rattle.mm_database.specs.declared.names.SymbolEntry.{SymbolEntry}
use Rattle.mm_scope.proofs.LatestLaw.{in_active_iff_latest_active}
use Rattle.mm_spec.proofs.ListLaw.{none_passes_no_any}
use Rattle.mm_outline.proofs.ActiveWordsLaw.{word_of_active_is_any, typed_word_is_typing}
use Rattle.mm_scope.proofs.OpenLaw.{latest_active_is_open, declarations_are_local}
use Rattle.mm_scope.proofs.OpenLaw.{typings_are_local}

-- a word that no statement has
no_statement_has_word : (db : List Statement) (f : Statement → List Bytes) (w : Bytes)
    → is_in w (flat_map f db) ≡ false → (j : ℕ) → has_word db f w j ≡ false
no_statement_has_word [] f w w_not_in_db j = refl
no_statement_has_word (s ∷ db) f w w_not_in_db zero =
    grind (arith, common_steps, list_any-append, bytes_eq)
no_statement_has_word (s ∷ db) f w w_not_in_db (suc j) =
    grind (arith, common_steps, list_any-append, bytes_eq, (no_statement_has_word db f w))

-- no active statement has it either
pub no_active_statement_has_word : (db : List Statement) (f : Statement → List Bytes) (w : Bytes)
    → is_in w (flat_map f db) ≡ false
    → is_in w (flat_map f (active_statements db (length db))) ≡ false
no_active_statement_has_word db f w w_not_in_db =
    grind (
      arith,
      common_steps,
      word_of_active_is_any,
      none_passes_no_any,
      no_statement_has_word,
      and-false,
    )

-- no block is open by the number that stands for no statement
never_is_not_open : (b : BlockLists) → length b.block_of ≤ never → is_open_in b never ≡ false
never_is_not_open b length_le_never = rw (slice_get_past b.block_of never length_le_never) refl

module _ (db : List Statement) (b : BlockLists) (are_blocks : IsBlocks db b)
    (db_lt_never : length db < never)
    (w : Bytes) where
  -- a word is an active variable exactly if its entry says so
  in_active_is_active_variable : (o : Option SymbolEntry) → IsEntryOf db w (entry_of o)
      → is_in w (flat_map variables_of (active_statements db (length db)))
      ≡ judge.is_active_variable (is_open_in b) o
  in_active_is_active_variable None is_entry =
      no_active_statement_has_word db variables_of w is_entry.variable_is_known
  in_active_is_active_variable (Some s) is_entry = in_active_is_open s.is_variable refl
    where
      in_active_is_open : (v : Bool) → s.is_variable ≡ v
          → is_in w (flat_map variables_of (active_statements db (length db)))
          ≡ (v && is_open_in b s.declaration)
      in_active_is_open true is_variable_is_v =
          let last_declares_w = is_entry.declaration_is_latest is_variable_is_v in
          in_active_iff_latest_active db variables_of w s.declaration last_declares_w
          ∙ latest_active_is_open db b are_blocks db_lt_never variables_of w
          (declarations_are_local w) s.declaration last_declares_w
      in_active_is_open false is_variable_is_v =
          no_active_statement_has_word db variables_of w
          (is_entry.variable_is_known ∙ is_variable_is_v)

  -- a word has an active `$f` exactly if its entry says so
  in_active_is_typed_here : (o : Option SymbolEntry) → IsEntryOf db w (entry_of o)
      → is_in w (flat_map typed_words (active_statements db (length db)))
      ≡ is_typed_here (is_open_in b) o
  in_active_is_typed_here None is_entry =
      no_active_statement_has_word db typed_words w (is_entry.untyped_has_no_typing refl)
  in_active_is_typed_here (Some s) is_entry = elim (cases_eq s.typing never) [
    | inl typed_is_never ↦
        rw (
          typed_is_never,
          never_is_not_open b (omega (arith, are_blocks.count, db_lt_never)),
        ) (no_active_statement_has_word db typed_words w
        (is_entry.untyped_has_no_typing typed_is_never))
    | inr typed_ne_never ↦
        let last_types_w = is_entry.typing_is_latest typed_ne_never in
        in_active_iff_latest_active db typed_words w s.typing last_types_w
        ∙ latest_active_is_open db b are_blocks db_lt_never typed_words w
        (typings_are_local w) s.typing last_types_w
  ]

-- an entry says the same as what is known of the word
entry_is_known : (o : Option SymbolEntry)
    → (is_constant_entry (entry_of o) ≡ is_constant_in o)
    × (is_variable_entry (entry_of o) ≡ is_variable_in o)
    × ((c : Bytes)
    → (not (nat_eq (typed_by (entry_of o)) never) && not (bytes_eq c (typecode_by (entry_of o))))
    ≡ has_other_typecode c o)
entry_is_known o = grind (arith, common_steps)

-- the names before the next statement are those that are known
pub scope_knows_names : (db : List Statement) (look : List ℕ → Option SymbolEntry) (labels : List ℕ
    → Option ℕ)
    → (b : BlockLists)
    → KnowsStatements db look labels b → length db < never
    → Knows (names_before db (length db)) look labels (is_open_in b)
scope_knows_names db look labels b knows db_lt_never =
    let take_length_is_db = take_all (length db) db (le_refl (length db)) in
    record {
      constants = search (rules, arith, entry_is_known);
      all_variables = search (rules, arith, entry_is_known);
      active_variables =
          λ w. in_active_is_active_variable db b knows.blocks db_lt_never w (look w)
          (knows.symbols w);
      labels_known = λ w. rw take_length_is_db (knows.labels_known w);
      typed =
          λ w active_at. typed_word_is_typing w (active_statements db (length db))
          ∙ in_active_is_typed_here db b knows.blocks db_lt_never w (look w) (knows.symbols w);
      other_typecode = search (rules, arith, entry_is_known);
    }

-- what is the least fault by the names that are known is so by the names before the next statement
pub least_before_next : {db : List Statement} {look : List ℕ → Option SymbolEntry}
    {labels : List ℕ → Option ℕ} {b : BlockLists} (rule : Names → List Fault)
    {found : Option Fault} → KnowsStatements db look labels b → length db < 2 ^ 31
    → ((n : Names) → Knows n look labels (is_open_in b) → found ≡ least (rule n))
    → found ≡ least (rule (names_before db (length db)))
least_before_next rule knows db_lt_2_31 found_is_least = grind (arith, nat_tests, scope_knows_names)
