-- What is known after some statements.
use Rattle.std.specs.Prelude.{◌≡◌, ℕ, ◌<◌, ◌^◌, List, [], ◌∷◌, ◌++◌, length, Option, None, flat_map}
use Rattle.std.specs.Prelude.{is_some, take, true, ◌≢◌}
use Rattle.mm_spec.specs.Statement.{is_closing, Statement}
use Rattle.mm_spec.specs.Scope.{depth, label_words, names_before}
use Rattle.mm_spec.specs.Lawful.{least, scope_fault, scope_faults}
use Rattle.mm_spec.specs.Lexed.{tokens_of}
use Rattle.mm_spec.specs.declared.Word.{Word}
use Rattle.mm_outline.specs.Parts.{statement_of}
use Rattle.mm_outline.specs.Statements.{statements}
use Rattle.mm_outline.specs.declared.parts.Outline.{Outline}
use Rattle.mm_spec.specs.Frame.{symbol_names}
use Rattle.mm_outline.specs.Blocks.{BlockLists, IsBlocks}
use Rattle.mm_lists.specs.Lists.{cut}
use Rattle.mm_database.specs.ParsedStatements.{parsed_statements}
use Rattle.mm_database.specs.Names.{find, names_of}
use Rattle.mm_scope.specs.Formulas.{AreFormulas}
use Rattle.mm_scope.specs.declared.reading.Outlined.{Outlined}
use Rattle.mm_database.specs.declared.reading.Reading.{Reading}
use Rattle.mm_spec.specs.Text.{is_in}
use Rattle.mm_scope.specs.WordEntry.{IsEntryOf, entry_of}
use Rattle.mm_database.specs.Labels.{AreLabels}
use Rattle.mm_database.specs.declared.names.SymbolEntry.{SymbolEntry}

-- the code knows what is before the next statement
pub record KnowsStatements (db : List Statement) (look : List ℕ → Option SymbolEntry)
    (labels : List ℕ → Option ℕ) (b : BlockLists) : Type 0 where
  pub blocks : IsBlocks db b
  pub symbols : (w : List ℕ) → IsEntryOf db w (entry_of (look w))
  pub labels_known : (w : List ℕ) → is_in w (flat_map label_words db) ≡ is_some (labels w)
  pub labels_are : AreLabels db labels

-- all that has been read after some statements: names, blocks, and the symbols by their numbers
pub record ReadSoFar : Type 0 where
  pub look : List ℕ → Option SymbolEntry
  pub labels : List ℕ → Option ℕ
  pub blocks : BlockLists
  pub names : List (List ℕ)
  pub symbols : List ℕ
  pub ends : List ℕ

-- what has been read is that of these statements
pub record IsReadSoFar (db : List Statement) (k : ReadSoFar) : Type 0 where
  pub knows : KnowsStatements db k.look k.labels k.blocks
  pub names_are : k.names ≡ symbol_names db
  pub formulas : AreFormulas db k.symbols k.ends

module _ {A : Type 0} where
  -- with these symbols
  abbrev pub read_with : List ℕ → Outlined A → ReadSoFar
  read_with symbols r = record {
    look = find r.scope.names.symbols;
    labels = find r.scope.names.labels;
    blocks = r.scope.blocks;
    names = names_of r.scope.names.symbols;
    symbols = symbols;
    ends = r.ends.items;
  }

  abbrev pub read_so_far : Outlined A → ReadSoFar
  read_so_far r = read_with r.symbols.items r

  -- after the next statement there is its fault; if it has none, the statement was added to what
  -- had been read, otherwise nothing was. The statement's outline is `o`, `r` is what has been read
  -- after it, and its symbols have the numbers from `first` up to `end`.
  pub record HasReadNext (text : List ℕ) (tokens : List Word) (before : List Outline)
      (open_blocks : ℕ) (o : Outline) (numbers : List ℕ) (first end : ℕ) (r : Outlined A) : Type 0
    where
      pub fault : r.fault
          ≡ least (scope_faults (names_before (statements text tokens before) (length before))
          open_blocks
          (statement_of text tokens o))
      pub if_lawful : r.fault ≡ None
          → (r.outlines.items ≡ before ++ o ∷ [])
          × IsReadSoFar (statements text tokens before ++ statement_of text tokens o ∷ [])
          (read_with (take end numbers) r)
      pub if_unlawful : r.fault ≢ None
          → (r.outlines.items ≡ before)
          × IsReadSoFar (statements text tokens before) (read_with (take first numbers) r)

  -- the symbols of each statement
  abbrev pub formulas_of : Outlined A → List (List ℕ)
  formulas_of r = cut r.ends.items r.symbols.items

  -- what was read of the text, the names by themselves
  abbrev pub reading_of : List ℕ → Outlined A → Reading A
  reading_of text r = record {
    statements =
        parsed_statements text (statements text (tokens_of text) r.outlines.items) r.scope.blocks;
    names = r.scope.names;
    fault = r.fault;
  }

-- a statement that may follow lawful ones
pub record MayTake (db : List Statement) (open_blocks : ℕ) (s : Statement) : Type 0 where
  pub lawful : (k : ℕ) → k < length db → scope_fault db k ≡ None
  pub few_statements : length db < 2 ^ 31
  pub open_blocks_is_depth : open_blocks ≡ depth db (length db)
  pub closes_open_block : is_closing s ≡ true → 0 < depth db (length db)
