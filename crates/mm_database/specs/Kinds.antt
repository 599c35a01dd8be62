-- What statements count as, by their kinds.
use Rattle.std.specs.Prelude.{ℕ, Bool, true, false, List, length, Some, None, slice_get}
use Rattle.std.specs.List.{range_with_len, filter}
use Rattle.mm_spec.specs.Statement.{Statement, constants, variables, disjoint, floating, essential}
use Rattle.mm_spec.specs.Statement.{axiomatic, provable, opening, closing}
use Rattle.mm_spec.specs.Opened.{as_axiom}
use Rattle.mm_outline.specs.declared.parts.Kind.{Kind}
use Rattle.mm_outline.specs.declared.parts.Kind.TheVariants as kind

-- which of the nine shapes a statement has
abbrev pub kind_of : Statement → Kind
kind_of (constants k xs d) = kind.Constants
kind_of (variables k xs d) = kind.Variables
kind_of (disjoint k xs d) = kind.Disjoint
kind_of (floating l k xs d) = kind.Floating
kind_of (essential l k xs d) = kind.Essential
kind_of (axiomatic l k xs d) = kind.Axiom
kind_of (provable l k xs e ps d) = kind.Theorem
kind_of (opening k) = kind.Open
kind_of (closing k) = kind.Close

-- a statement as it counts
abbrev pub counted_as : (with_open : Bool) → Statement → Statement
counted_as true s = as_axiom s
counted_as false s = s

abbrev pub is_theorem_kind : Kind → Bool
is_theorem_kind kind.Theorem = true
is_theorem_kind _ = false

abbrev pub is_axiom_kind : Kind → Bool
is_axiom_kind kind.Axiom = true
is_axiom_kind _ = false

abbrev pub is_assertion_kind : Kind → Bool
is_assertion_kind kind.Axiom = true
is_assertion_kind kind.Theorem = true
is_assertion_kind _ = false

abbrev pub is_floating_kind : Kind → Bool
is_floating_kind kind.Floating = true
is_floating_kind _ = false

abbrev pub is_disjoint_kind : Kind → Bool
is_disjoint_kind kind.Disjoint = true
is_disjoint_kind _ = false

-- the numbers of the statements whose kinds pass the test
abbrev pub numbers_of : (Kind → Bool) → List Kind → List ℕ
numbers_of test kinds =
    filter (λ j. elim (slice_get kinds j) [ None ↦ false | Some k ↦ test k ])
    (range_with_len 0 (length kinds))
