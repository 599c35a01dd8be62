-- What the statements before one say of symbols.
use Rattle.std.specs.Prelude.{◌≡◌, ℕ, ◌<◌, ◌≤◌, true, List, length, slice_index}
use Rattle.std.specs.List.{list_any}
use Rattle.mm_spec.specs.Statement.{Statement}
use Rattle.mm_spec.specs.Scope.{statement_at}
use Rattle.mm_spec.specs.Derivation.{is_member}
use Rattle.mm_spec.specs.Frame.{symbol_names, is_disjoint_statement, formula_at}
use Rattle.mm_outline.specs.Blocks.{BlockLists, end_of}
use Rattle.mm_database.specs.DisjointIndex.{is_active_local}
use Rattle.mm_frame.specs.Hypotheses.{AreLastFloats}
use Rattle.mm_frame.specs.declared.symbol_facts.SymbolFacts.{SymbolFacts}

module _ (db : List Statement) (b : BlockLists) (k : ℕ) where
  -- for each symbol an end that the block of no `$d` before k that has the symbol ends after
  pub record AreDisjointEnds (ends : List ℕ) : Type 0 where
    pub count : length ends ≡ length (symbol_names db)
    pub none_ends_later : (j x : ℕ) → j < k
        → list_any is_disjoint_statement (statement_at db j) ≡ true
        → is_member (formula_at db j) x ≡ true → end_of b j ≤ slice_index ends x

  -- these are some of the variables, and the others are in no `$d` that is active at k
  pub record AreDisjointVariables (variables disjoint_variables : List ℕ) : Type 0 where
    pub are_variables : (x : ℕ) → is_member disjoint_variables x ≡ true
        → is_member variables x ≡ true
    pub active_are_listed : (j x : ℕ) → is_member variables x ≡ true
        → list_any is_disjoint_statement (statement_at db j) ≡ true
        → is_member (formula_at db j) x ≡ true → is_active_local b j k ≡ true
        → is_member disjoint_variables x ≡ true

  module _ {A : Type 0} where
    -- what is known of each symbol before k
    pub record AreSymbolFacts (facts : SymbolFacts A) : Type 0 where
      pub last_floats : AreLastFloats db k facts.last_floats.items
      pub disjoint_ends : AreDisjointEnds facts.disjoint_ends.items
