-- The statements that reading keeps are sound.
use Rattle.std.proofs.Common.{◌≡◌, ℕ, ◌<◌, ◌^◌, Bool, true, false, List, All, length, get_or}
use Rattle.std.proofs.Common.{slice_get, flat_map, [], Option, None, Some, refl, sym, ap, ◌∙◌}
use Rattle.std.proofs.lemmas.Bool.{not-true}
use Rattle.std.proofs.lemmas.Option.{slice_get-get_or}
use Rattle.mm_spec.specs.Text.{is_in}
use Rattle.mm_spec.specs.Scope.{variables_of}
use Rattle.mm_database.specs.Names.{is_variable_in}
use Rattle.mm_spec.specs.Statement.{Statement, opening}
use Rattle.mm_spec.specs.Lawful.{scope_fault}
use Rattle.mm_spec.specs.Frame.{symbol_names, formula_at, is_variable_number}
use Rattle.mm_spec.specs.declared.Fault.{Fault}
use Rattle.mm_spec.specs.Lexed.{LexedText}
use Rattle.mm_spec.specs.Output.{IsRead}
use Rattle.mm_spec.proofs.LocalLaw.{scope_fault_front}
use Rattle.mm_outline.specs.Blocks.{BlockLists}
use Rattle.mm_scope.specs.WordEntry.{WordEntry, entry_of, is_constant_entry, is_variable_entry}
use Rattle.mm_scope.specs.ReadSoFar.{KnowsStatements}
use Rattle.mm_database.specs.ParsedStatements.{IsSound}
use Rattle.mm_database.specs.declared.names.SymbolEntry.{SymbolEntry}
use Rattle.mm_scope.proofs.BoundsLaw.{symbols_have_names}

constant_is_no_variable : (x : Option WordEntry) → is_constant_entry x ≡ true
    → is_variable_entry x ≡ false
constant_is_no_variable None is_constant = refl
constant_is_no_variable (Some is_constant) is_constant_e =
    not-true is_constant.is_variable is_constant_e

pub known_lawful_is_sound : (db : List Statement) (look : List ℕ → Option SymbolEntry)
    (labels : List ℕ → Option ℕ)
    → (b : BlockLists)
    → KnowsStatements db look labels b → length db < 2 ^ 31
    → ((k : ℕ) → k < length db → scope_fault db k ≡ None)
    → ((k : ℕ) → k < length db → All (λ s. s < length (symbol_names db))
    (formula_at db k))
    → IsSound db
known_lawful_is_sound db look labels b knows_statements statements_lt_2_31 lawful
    symbols_have_numbers = record {
      few_statements = statements_lt_2_31;
      lawful = lawful;
      no_constant_is_variable =
          λ w w_is_constant. let known_symbol =
          knows_statements.symbols w in
          known_symbol.variable_is_known
          ∙ constant_is_no_variable (entry_of (look w))
          (sym known_symbol.constant_is_known ∙ w_is_constant);
      symbols_have_numbers = symbols_have_numbers;
    }

-- what has been read is lawful
pub read_is_lawful : (len : ℕ) (x : LexedText) (db : List Statement) (fault : Option Fault)
    → IsRead len x db fault → (k : ℕ) → k < length db → scope_fault db k ≡ None
read_is_lawful len x db fault is_read k k_lt_length =
    sym (scope_fault_front db is_read.rest k k_lt_length)
    ∙ ap (λ list. scope_fault list k) (sym is_read.splits)
    ∙ is_read.lawful k k_lt_length

pub read_is_sound : (len : ℕ) (x : LexedText) (db : List Statement) (fault : Option Fault)
    → IsRead len x db fault
    → (look : List ℕ → Option SymbolEntry) (labels : List ℕ → Option ℕ) (b : BlockLists)
    → KnowsStatements db look labels b → length db < 2 ^ 31 → IsSound db
read_is_sound len x db fault is_read look labels b knows statements_lt_2_31 =
    let lawful = read_is_lawful len x db fault is_read in
    known_lawful_is_sound db look labels b knows statements_lt_2_31 lawful
    (λ k k_lt_length. symbols_have_names db lawful k k_lt_length (get_or db k (opening 0))
    (slice_get-get_or db k (opening 0) k_lt_length))

-- the marks of the variables are those that the map has
marked_as_known : (x : Option SymbolEntry) → is_variable_in x ≡ is_variable_entry (entry_of x)
marked_as_known None = refl
marked_as_known (Some s) = refl

-- the names of the symbols, and which of them are variables
pub record AreSymbols (db : List Statement) (names : List (List ℕ))
    (kinds : List Bool) : Type 0 where
  pub names_are : names ≡ symbol_names db
  pub count : length kinds ≡ length names
  pub kinds_tell_variables : (s : ℕ) → s < length names
      → get_or kinds s false ≡ is_variable_number db s

pub are_symbols : (db : List Statement) (look : List ℕ → Option SymbolEntry)
    (labels : List ℕ → Option ℕ)
    → (b : BlockLists)
    → KnowsStatements db look labels b → (names : List (List ℕ)) (kinds : List Bool)
    → names ≡ symbol_names db
    → length kinds ≡ length names
    → ((s : ℕ) (w : List ℕ) → slice_get names s ≡ Some w
    → get_or kinds s false ≡ is_variable_in (look w))
    → AreSymbols db names kinds
are_symbols db look labels b knows_statements names kinds names_are counts_equal kinds_are =
    record {
      names_are = names_are;
      count = counts_equal;
      kinds_tell_variables = λ s s_lt_count.
          let w = get_or names s [] in
          let name_is = slice_get-get_or names s [] s_lt_count in
          kinds_are s w name_is ∙ marked_as_known (look w)
          ∙ sym (knows_statements.symbols w).variable_is_known
          ∙ ap (λ o. elim o [ None ↦ false | Some w ↦ is_in w (flat_map variables_of db) ])
          (sym name_is ∙ ap (λ xs. slice_get xs s) names_are);
    }
