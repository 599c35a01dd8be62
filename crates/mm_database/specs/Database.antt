-- What a database of statements is to its callers, and what its fields keep.
use Rattle.std.specs.Prelude.{◌≡◌, ℕ, ◌<◌, ◌^◌, ◌∷◌, Bool, List, length, map, slice_get}
use Rattle.std.specs.Prelude.{if◌then◌else◌, Option, None}
use Rattle.std.specs.List.{list_any}
use Rattle.mm_spec.specs.declared.Fault.{Fault}
use Rattle.mm_spec.specs.Statement.{Statement}
use Rattle.mm_spec.specs.Opened.{open_as_axioms}
use Rattle.mm_spec.specs.Scope.{statement_at}
use Rattle.mm_spec.specs.Frame.{symbol_names, formula_at}
use Rattle.mm_spec.specs.Lexed.{lexed_of}
use Rattle.mm_spec.specs.Assertion.{label_at}
use Rattle.mm_spec.specs.Output.{IsRead, theorems, columns}
use Rattle.mm_database.specs.FrameTables.{AreFrameTables}
use Rattle.mm_database.specs.Labels.{AreLabels}
use Rattle.mm_database.specs.Names.{find, names_of}
use Rattle.mm_database.specs.RetainedWords.{AreRetained}
use Rattle.mm_database.specs.declared.reading.Reading.{Reading}
use Rattle.mm_database.specs.declared.tables.StatementTables.{StatementTables}
use Rattle.mm_database.specs.declared.statement_lists.StatementLists.{StatementLists}
pub use Rattle.mm_database.specs.RetainedWords.{end_at}
pub use Rattle.mm_outline.specs.Parts.{is_labelled_kind}
pub use Rattle.mm_database.specs.Kinds.{kind_of}

-- A text; its statements up to the first malformed or unlawful one, as they were read and as they
-- count; and the fault there. If `with_open` is set, open theorems count as axioms.
pub record Contents : Type 0 where
  pub text : List ℕ
  pub read : List Statement
  pub with_open : Bool
  pub statements : List Statement
  pub fault : Option Fault

abbrev pub contents : List ℕ → List Statement → (with_open : Bool) → Option Fault → Contents
contents text db with_open fault =
    record {
      text = text;
      read = db;
      with_open = with_open;
      statements = open_as_axioms with_open db;
      fault = fault;
    }

abbrev pub typecode_of : List Statement → ℕ → Option ℕ
typecode_of db k =
    if list_any (λ s. is_labelled_kind (kind_of s)) (statement_at db k) then slice_get
    (formula_at db k) 0 else None

-- the labels of the theorems, each after a space
abbrev pub spaced_labels : List Statement → List (List ℕ)
spaced_labels db = map (λ k. 32 ∷ label_at db k) (theorems db)

module _ {A : Type 0} where
  -- the lists are those of the statements, as these count
  pub record AreStatementLists (db : List Statement) (l : StatementLists A) : Type 0 where
    pub kinds_are : l.kinds.items ≡ map kind_of db
    pub theorems_are : l.theorems.items ≡ theorems db
    pub axioms_are : l.axioms.items ≡ columns db None
    pub spaced_labels_are : l.spaced_labels ≡ spaced_labels db

  abbrev pub contents_of : (with_open : Bool) → Reading A → Contents
  contents_of with_open r =
      contents r.statements.text r.statements.list with_open r.fault

  -- the statements are the reading of the text, and all tables are theirs
  pub record IsDatabase (with_open : Bool) (r : Reading A) (tables : StatementTables A)
      : Type 0 where
    pub few_statements : length r.statements.list < 2 ^ 31
    pub is_read : IsRead (length r.statements.text) (lexed_of r.statements.text)
        r.statements.list r.fault
    pub labels_are : AreLabels r.statements.list (find r.names.labels)
    pub names_are : names_of r.names.symbols ≡ symbol_names r.statements.list
    pub frame_tables_are : AreFrameTables r.statements.list r.statements.blocks tables.frame_tables
    pub lists_are : AreStatementLists (open_as_axioms with_open r.statements.list)
        tables.statement_lists
    pub retained_are : AreRetained r.statements.text r.statements.list tables.retained_words
