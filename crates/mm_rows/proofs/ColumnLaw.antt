-- Columns, as a selection among the axioms.
use Rattle.std.proofs.lemmas.Grind.{common_steps}
use Rattle.std.proofs.Common.{◌≡◌, ℕ, Bool, true, ◌&&◌, List, [], ◌∷◌, Option, None, refl, rules}
use Rattle.std.proofs.Common.{arith}
use Rattle.std.specs.List.{list_any, filter}
use Rattle.mm_spec.specs.Text.{Bytes}
use Rattle.mm_spec.specs.Statement.{Statement}
use Rattle.mm_spec.specs.Scope.{statement_at}
use Rattle.mm_spec.specs.Citation.{is_assertion}
use Rattle.mm_spec.specs.Assertion.{has_typecode}
use Rattle.mm_spec.specs.Output.{columns, is_column}

-- a selection of a selection is the selection by both tests
pub filter_of_filter : (p q r : ℕ → Bool) (xs : List ℕ) → ((x : ℕ) → r x ≡ (p x && q x))
    → filter q (filter p xs) ≡ filter r xs
filter_of_filter p q r [] both_tests = refl
filter_of_filter p q r (x ∷ xs) both_tests =
    grind (arith, common_steps, (filter_of_filter p q r xs both_tests))

pub columns_split : (chosen_typecode : Option Bytes) (db : List Statement) (j : ℕ)
    → list_any (is_column chosen_typecode) (statement_at db j)
    ≡ (list_any (is_column None) (statement_at db j)
    && list_any (has_typecode chosen_typecode) (statement_at db j))
columns_split chosen_typecode db j = grind arith

-- the columns are the axioms with the typecode
pub columns_are_chosen_axioms : (chosen_typecode : Option Bytes) (db : List Statement)
    → filter (λ j. list_any (has_typecode chosen_typecode) (statement_at db j)) (columns db None)
    ≡ columns db chosen_typecode
columns_are_chosen_axioms chosen_typecode db =
    search (rules, arith, filter_of_filter, columns_split)

-- an axiom is an assertion
pub axiom_is_assertion : (db : List Statement) (j : ℕ)
    → list_any (is_column None) (statement_at db j) ≡ true
    → list_any is_assertion (statement_at db j) ≡ true
axiom_is_assertion db j is_axiom = grind arith
