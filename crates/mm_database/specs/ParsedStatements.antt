-- The statements of a text as they were read, and what is known of them.
use Rattle.std.specs.Prelude.{◌≡◌, ℕ, ◌<◌, ◌^◌, Bool, true, false, List, length, get_or, slice_get}
use Rattle.std.specs.Prelude.{All, flat_map, Option, None, if◌then◌else◌}
use Rattle.std.specs.List.{list_any}
use Rattle.mm_spec.specs.Text.{Bytes, is_in}
use Rattle.mm_spec.specs.Statement.{Statement}
use Rattle.mm_spec.specs.Scope.{statement_at, constants_of, variables_of}
use Rattle.mm_spec.specs.Lawful.{scope_fault}
use Rattle.mm_spec.specs.Frame.{symbol_names, is_variable_number, is_floating, formula_at}
use Rattle.mm_outline.specs.Blocks.{BlockLists, IsBlocks}
use Rattle.mm_database.specs.Numbered.{AreNumbered}

-- a text, its statements as they were read, and the blocks in which these are
pub record ParsedStatements : Type 0 where
  pub text : List ℕ
  pub list : List Statement
  pub blocks : BlockLists

abbrev pub parsed_statements : List ℕ → List Statement → BlockLists → ParsedStatements
parsed_statements text db b = record { text = text; list = db; blocks = b }

-- the statements are lawful, no constant is a variable too, and each symbol has a number
pub record IsSound (db : List Statement) : Type 0 where
  pub few_statements : length db < 2 ^ 31
  pub lawful : (k : ℕ) → k < length db → scope_fault db k ≡ None
  pub no_constant_is_variable : (w : Bytes) → is_in w (flat_map constants_of db) ≡ true
      → is_in w (flat_map variables_of db) ≡ false
  pub symbols_have_numbers : (k : ℕ) → k < length db
      → All (λ s. s < length (symbol_names db)) (formula_at db k)

-- the statements are sound, and these are their blocks, their formulas, and which symbols are
-- variables
pub record AreParsedStatements (db : List Statement) (b : BlockLists) (formulas : List (List ℕ))
    (variable_flags : List Bool) : Type 0 where
  pub sound : IsSound db
  pub blocks : IsBlocks db b
  pub numbered : AreNumbered db formulas
  pub few_symbols : length variable_flags < 2 ^ 31
  pub count : length variable_flags ≡ length (symbol_names db)
  pub variable : (s : ℕ) → s < length (symbol_names db)
      → get_or variable_flags s false ≡ is_variable_number db s

-- the variable of a `$f`
abbrev pub typed_variable_at : List Statement → ℕ → Option ℕ
typed_variable_at db k =
    if list_any is_floating (statement_at db k) then slice_get (formula_at db k) 1 else None
