-- What the labels of some statements stand for.
use Rattle.std.specs.Prelude.{◌≡◌, ℕ, ◌<◌, true, false, List, length, Option, None, Some, IsTrue}
use Rattle.std.specs.List.{list_any}
use Rattle.mm_spec.specs.Statement.{Statement}
use Rattle.mm_spec.specs.Scope.{statement_at}
use Rattle.mm_spec.specs.NormalProof.{is_labelled}

-- what the labels stand for
pub record AreLabels (db : List Statement) (find : List ℕ → Option ℕ) : Type 0 where
  pub found_has_label : (w : List ℕ) (k : ℕ) → find w ≡ Some k
      → (k < length db) × IsTrue (list_any (is_labelled w) (statement_at db k))
  pub missing_has_no_statement : (w : List ℕ) → find w ≡ None → (k : ℕ)
      → list_any (is_labelled w) (statement_at db k) ≡ false
  pub label_is_unique : (w : List ℕ) (j k : ℕ) → list_any (is_labelled w) (statement_at db j) ≡ true
      → list_any (is_labelled w) (statement_at db k) ≡ true → j ≡ k
