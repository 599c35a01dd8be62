-- The typecode of an assertion, compared with one that is chosen.
use Rattle.std.proofs.Common.{◌≡◌, ℕ, true, List, slice_get, Some, bytes_eq, rules, arith}
use Rattle.std.specs.List.{list_any}
use Rattle.std.proofs.Math.Bool.{or-false}
use Rattle.mm_spec.specs.Text.{Bytes}
use Rattle.mm_spec.specs.Statement.{Statement}
use Rattle.mm_spec.specs.Scope.{statement_at}
use Rattle.mm_spec.specs.Citation.{is_assertion}
use Rattle.mm_spec.specs.Assertion.{has_typecode}
use Rattle.mm_spec.specs.Frame.{symbol_names}
use Rattle.mm_spec.proofs.FindsLaw.{passing_statement, statement_at_place, formula_at_place}
use Rattle.mm_spec.proofs.FaultlessLaw.{symbol_of_number_is}
use Rattle.mm_database.specs.Database.{typecode_of}

-- the typecode is compared by its name
pub typecode_is_compared : (db : List Statement) (k x : ℕ) (v w : Bytes)
    → list_any is_assertion (statement_at db k) ≡ true → typecode_of db k ≡ Some x
    → slice_get (symbol_names db) x ≡ Some v
    → bytes_eq v w ≡ list_any (has_typecode (Some w)) (statement_at db k)
typecode_is_compared db k x v w is_assertion_k typecode_is_x name_of_x =
    search (
      rules,
      arith,
      passing_statement,
      slice_get,
      bytes_eq,
      statement_at_place,
      formula_at_place,
      symbol_of_number_is,
      or-false,
    )
