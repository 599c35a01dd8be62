-- Only variables whose disjoint end isn't before a statement may be in a `$d` that is active there.
-- So what is found of these variables is what would be found of all.
use Rattle.std.proofs.Common.{◌≡◌, ℕ, ◌≤◌, true, ◌&&◌, List, length}
use Rattle.std.proofs.Common.{slice_index, arith, false}
use Rattle.mm_spec.specs.Statement.{Statement}
use Rattle.mm_spec.specs.Derivation.{is_member}
use Rattle.mm_spec.specs.Frame.{symbol_names}
use Rattle.mm_spec.proofs.BoolLaw.{same_tests}
use Rattle.mm_outline.specs.Blocks.{BlockLists, IsBlocks}
use Rattle.mm_database.specs.DisjointIndex.{has_symbol_by_width, IsRowOfPairs, has_narrow_pair}
use Rattle.mm_database.specs.DisjointIndex.{is_active_local, is_active_in_row, row_of}
use Rattle.mm_database.specs.Pairs.{has_pair}
use Rattle.mm_database.proofs.TogetherLaw.{row_is_together}
use Rattle.mm_frame.specs.Together.{is_higher_variable_in_row, is_higher_variable_in_rows}
use Rattle.mm_frame.specs.SymbolFacts.{AreDisjointEnds, AreDisjointVariables}

-- the ends of the symbols are no earlier than `end`, and none is earlier than it was
pub record AreMoved (symbols : List ℕ) (end : ℕ) (old new : List ℕ) : Type 0 where
  pub count : length new ≡ length old
  pub none_is_earlier : (x : ℕ) → slice_index old x ≤ slice_index new x
  pub end_is_reached : (x : ℕ) → is_member symbols x ≡ true → end ≤ slice_index new x

module _ (db : List Statement) (b : BlockLists) (k : ℕ) where
  -- before the first statement there is no `$d`, so any end will do
  pub disjoint_ends_at_start : (ends : List ℕ) → length ends ≡ length (symbol_names db)
      → AreDisjointEnds db b 0 ends
  disjoint_ends_at_start ends count_is = record {
    count = count_is;
    none_ends_later = λ j x j_lt_0. absurd (omega (arith, j_lt_0));
  }

  module _ (vs ds : List ℕ) (are_listed : AreDisjointVariables db b k vs ds) where
    -- of the wide `$d` with the variables as many are active as of those with the listed ones
    pub wide_are_listed : (ps : List (ℕ × ℕ))
        → ((x j : ℕ) → has_pair ps x j ≡ has_symbol_by_width db false x j) → (j y : ℕ)
        → (is_member ds y && (has_pair ps y j && is_active_local b j k))
        ≡ (is_member vs y && (has_pair ps y j && is_active_local b j k))
    wide_are_listed ps members_are j y =
        same_tests (is_member ds y && (has_pair ps y j && is_active_local b j k))
        (is_member vs y && (has_pair ps y j && is_active_local b j k))
        (λ is_one. grind (arith, is_one, are_listed.are_variables y))
        (λ is_one. grind (arith, is_one, members_are y j, are_listed.active_are_listed j y))

    module _ (blocks : IsBlocks db b) (k_le_length : k ≤ length db) (rows : List (List (ℕ × ℕ)))
        (rows_are : (x : ℕ) → IsRowOfPairs b (has_narrow_pair db x) (row_of rows x)) where
      -- the higher variables that the row of a symbol has with an active `$d` are listed
      pub higher_are_listed : (x y : ℕ)
          → is_higher_variable_in_row b (row_of rows x) x vs k y
          ≡ is_higher_variable_in_row b (row_of rows x) x ds k y
      higher_are_listed x y =
          same_tests (is_higher_variable_in_row b (row_of rows x) x vs k y)
          (is_higher_variable_in_row b (row_of rows x) x ds k y)
          (λ is_one.
          let is_active : is_active_in_row b (row_of rows x) y k ≡ true =
          grind (arith, is_one) in
          let both = row_is_together db b blocks k k_le_length rows rows_are x y is_active in
          grind (
            arith,
            is_one,
            are_listed.active_are_listed both.statement y,
            both.is_disjoint,
            both.has_y,
            both.is_active,
          ))
          (λ is_one. grind (arith, is_one, are_listed.are_variables y))

      -- and so is the symbol, if it is a variable
      pub rows_are_listed : (x y : ℕ)
          → is_higher_variable_in_rows b rows ds k x y ≡ is_higher_variable_in_rows b rows vs k x y
      rows_are_listed x y =
          same_tests (is_higher_variable_in_rows b rows ds k x y)
          (is_higher_variable_in_rows b rows vs k x y)
          (λ is_one. grind (arith, is_one, are_listed.are_variables x, higher_are_listed x y))
          (λ is_one.
          let is_active : is_active_in_row b (row_of rows x) y k ≡ true =
          grind (arith, is_one) in
          let both = row_is_together db b blocks k k_le_length rows rows_are x y is_active in
          grind (
            arith,
            is_one,
            are_listed.active_are_listed both.statement x,
            both.is_disjoint,
            both.has_x,
            both.is_active,
            higher_are_listed x y,
          ))
