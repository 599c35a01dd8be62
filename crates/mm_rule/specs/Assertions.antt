-- What the database says of assertions.
use Rattle.std.specs.Prelude.{ℕ, Bool, List, map}
use Rattle.std.specs.List.{list_any}
use Rattle.mm_spec.specs.Statement.{Statement}
use Rattle.mm_spec.specs.Scope.{statement_at}
use Rattle.mm_spec.specs.Derivation.{Pair, pair}
use Rattle.mm_spec.specs.Citation.{is_assertion}

-- whether a statement is an assertion
abbrev pub is_assertion_at : List Statement → ℕ → Bool
is_assertion_at db a = list_any is_assertion (statement_at db a)

-- pairs of symbols as pairs of a frame
abbrev pub as_pairs : List (ℕ × ℕ) → List Pair
as_pairs ps = map (λ p. pair p.0 p.1) ps
