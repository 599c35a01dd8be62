-- What a walk over the statements keeps for symbols.
use Rattle.std.specs.Prelude.{◌≡◌, ◌≢◌, ℕ, ◌<◌, ◌≤◌, Bool, true, ◌&&◌, not, List, length}
use Rattle.std.specs.Prelude.{slice_index, nat_eq, Some}
use Rattle.mm_spec.specs.Statement.{Statement}
use Rattle.mm_spec.specs.Frame.{symbol_names}
use Rattle.mm_spec.specs.Derivation.{is_member}
use Rattle.mm_spec.specs.Scope.{is_block_open}
use Rattle.mm_outline.specs.Blocks.{never}
use Rattle.mm_database.specs.ParsedStatements.{typed_variable_at}

-- of n symbols those with this stamp are the variables that have been found
pub record AreStamps (n stamp : ℕ) (stamps variables : List ℕ) : Type 0 where
  pub count : length stamps ≡ n
  pub stamps_le_stamp : (x : ℕ) → x < n → slice_index stamps x ≤ stamp
  pub stamp_tells_member : (x : ℕ) → x < n
      → nat_eq (slice_index stamps x) stamp ≡ is_member variables x

-- none of n symbols has a later stamp
pub record IsFresh (n stamp : ℕ) (stamps : List ℕ) : Type 0 where
  pub count : length stamps ≡ n
  pub stamps_le_stamp : (x : ℕ) → x < n → slice_index stamps x ≤ stamp

-- for each variable its last `$f` before k, the only one that may be active
pub record AreLastFloats (db : List Statement) (k : ℕ) (last_floats : List ℕ) : Type 0 where
  pub count : length last_floats ≡ length (symbol_names db)
  pub last_is_typed : (v : ℕ) → v < length (symbol_names db) → slice_index last_floats v ≢ never
      → (slice_index last_floats v < k) × (typed_variable_at db (slice_index last_floats v)
      ≡ Some v)
  pub open_is_last : (j v : ℕ) → j < k → v < length (symbol_names db)
      → typed_variable_at db j ≡ Some v
      → is_block_open db j k ≡ true → slice_index last_floats v ≡ j

-- statement j is the last `$f` of the variable, and active
abbrev pub is_float_of : List Statement → ℕ → List ℕ → ℕ → ℕ → Bool
is_float_of db k last_floats j v =
    nat_eq j (slice_index last_floats v)
    && (not (nat_eq (slice_index last_floats v) never)
    && is_block_open db (slice_index last_floats v) k)
