-- The one statement of another database that may be an assertion.
use Rattle.std.proofs.Common.{◌≡◌, ℕ, ◌<◌, length, sym, arith, Option, Some, None}
use Rattle.std.specs.Prelude.{IfSome, is_some}
use Rattle.mm_spec.proofs.FindsLaw.{range_any}
use Rattle.mm_spec.proofs.ListLaw.{none_passes_no_any}
use Rattle.mm_spec.specs.Comparison.{Side, is_same, is_there}
use Rattle.mm_compare.specs.Sides.{IsTheSame}

-- an assertion is there exactly if it is found
pub found_if_there : (s t : Side) (k : ℕ) (found : Option ℕ) → IsTheSame s k t found
    → IfSome found (λ j. j < length t.statements) → is_some found ≡ is_there s k t
found_if_there s t k (Some j) is_the_same below =
    sym (range_any (is_same s k t) (length t.statements) 0 j (omega arith) (omega (arith, below))
    is_the_same.0)
found_if_there s t k None is_the_same below =
    sym (none_passes_no_any (is_same s k t) (length t.statements) 0
    (λ i i_lt_end. is_the_same i))
