-- The last of the theorems of a database is a theorem.
use Rattle.std.proofs.Common.{◌≡◌, ℕ, ◌-◌, ◌<◌, List, length, get_or, sym, ap, subst, arith, IsTrue}
use Rattle.mm_spec.specs.Statement.{Statement}
use Rattle.mm_spec.specs.Output.{theorems, is_theorem_at}
use Rattle.mm_database.proofs.SpacedLaw.{theorems_are}

pub last_theorem_is_theorem : (db : List Statement) (ts : List ℕ) → ts ≡ theorems db → 0 < length ts
    → IsTrue (is_theorem_at db (get_or ts (length ts - 1) 0))
last_theorem_is_theorem db ts theorems_equal length_is_positive =
    let lengths_equal = ap length theorems_equal in
    subst (λ (us : List ℕ). IsTrue (is_theorem_at db (get_or us (length ts - 1) 0))) (sym
    theorems_equal)
    (theorems_are db (length ts - 1) 0 (omega (arith, lengths_equal, length_is_positive)))
