use Rattle.std.proofs.Common.{◌≡◌, ℕ, Bool, List, Some, None, false, slice_get}
use Rattle.std.specs.List.{range_with_len, filter}
use Rattle.mm_outline.specs.declared.parts.Kind.{Kind}
use Rattle.mm_database.specs.Kinds.{is_theorem_kind, is_axiom_kind}
use Rattle.mm_stmt.proofs.kinds.assertions_of.Given as goal

-- the numbers below `upto` of the statements whose kinds pass the test
abbrev pub numbers_below : (Kind → Bool) → List Kind → ℕ → List ℕ
numbers_below test kinds upto =
    filter (λ j. elim (slice_get kinds j) [ None ↦ false | Some k ↦ test k ])
    (range_with_len 0 upto)

abbrev pub invariant-loop-statement : goal.invariant-loop-statement
invariant-loop-statement g l = record {
  theorems : l.theorems.items ≡ numbers_below is_theorem_kind l.kinds l.statement;
  axioms : l.axioms.items ≡ numbers_below is_axiom_kind l.kinds l.statement;
}
