-- The dummy variables of the statements that are told.
use Rattle.std.specs.Prelude.{◌≡◌, ◌<◌, ℕ, List, Option, [], length, map, slice_index_or}
use Rattle.std.specs.Prelude.{if◌then◌else◌}
use Rattle.std.specs.List.{range_with_len}
use Rattle.mm_spec.specs.Text.{Bytes}
use Rattle.mm_spec.specs.Statement.{Statement}
use Rattle.mm_spec.specs.Derivation.{Pair}
use Rattle.mm_spec.specs.Assertion.{dummies, dummy_pairs, is_told}

-- for each statement dummy variables, and pairs with these
pub record DummyLists : Type 0 where
  pub variables : List (List ℕ)
  pub pairs : List (List Pair)

-- the dummy variables of a statement that is told, and its pairs with these; none of another
abbrev pub told_dummies : List Statement → Option Bytes → ℕ → List ℕ
told_dummies db only k = if is_told db only k then dummies db k else []

abbrev pub told_dummy_pairs : List Statement → Option Bytes → ℕ → List Pair
told_dummy_pairs db only k = if is_told db only k then dummy_pairs db k else []

-- those of the first n statements
abbrev pub dummies_before : List Statement → Option Bytes → ℕ → DummyLists
dummies_before db only n =
    record {
      variables = map (told_dummies db only) (range_with_len 0 n);
      pairs = map (told_dummy_pairs db only) (range_with_len 0 n);
    }

-- the lists have the dummy variables of statement k
pub record HaveDummies (db : List Statement) (lists : DummyLists) (k : ℕ) : Type 0 where
  pub variables_listed : k < length lists.variables
  pub pairs_listed : k < length lists.pairs
  pub variables_are : slice_index_or lists.variables k [] ≡ dummies db k
  pub pairs_are : slice_index_or lists.pairs k [] ≡ dummy_pairs db k
