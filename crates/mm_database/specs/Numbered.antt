-- The symbols of statements by their numbers.
use Rattle.std.specs.Prelude.{◌≡◌, ℕ, ◌<◌, List, [], length, slice_index_or}
use Rattle.mm_spec.specs.Statement.{Statement}
use Rattle.mm_spec.specs.Frame.{formula_at}

-- the formulas are those of the statements, one by one
pub record AreNumbered (db : List Statement) (formulas : List (List ℕ)) : Type 0 where
  pub count : length formulas ≡ length db
  pub formula : (k : ℕ) → k < length db → slice_index_or formulas k [] ≡ formula_at db k
