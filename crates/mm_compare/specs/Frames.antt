-- Assertions of two databases whose frames are the same word for word.
use Rattle.std.specs.Prelude.{◌≡◌, ℕ, Bool, true, ◌&&◌, List, Option, IfSome}
use Rattle.std.specs.Cmp.Lexicographic.{pointwise}
use Rattle.std.specs.List.{list_any}
use Rattle.mm_spec.specs.Statement.{Statement}
use Rattle.mm_spec.specs.Scope.{statement_at}
use Rattle.mm_spec.specs.Derivation.{Pair}
use Rattle.mm_spec.specs.Frame.{mandatory_hypotheses, mandatory_pairs}
use Rattle.mm_spec.specs.Citation.{is_assertion}
use Rattle.mm_spec.specs.Comparison.{has_same_name, is_same_hypothesis}

-- whether two pairs name the same variables, in their order
abbrev pub is_same_pair : List Statement → List Statement → Pair → Pair → Bool
is_same_pair db other p q =
    has_same_name db other p.low q.low && has_same_name db other p.high q.high

-- whether two assertions have the same mandatory hypotheses and the same pairs of disjoint
-- variables, each in order
abbrev pub has_same_frame : List Statement → ℕ → List Statement → ℕ → Bool
has_same_frame db k other j =
    pointwise (is_same_hypothesis db other) (mandatory_hypotheses db k)
    (mandatory_hypotheses other j)
    && pointwise (is_same_pair db other) (mandatory_pairs db k) (mandatory_pairs other j)

-- an assertion of each, with the same frame
abbrev pub HaveSameFrame : List Statement → List Statement → ℕ × ℕ → Type 0
HaveSameFrame db other known =
    (list_any is_assertion (statement_at db known.0) ≡ true)
    × (list_any is_assertion (statement_at other known.1) ≡ true)
    × (has_same_frame db known.0 other known.1 ≡ true)

-- two assertions, if any are known, that have the same frame
abbrev pub AreKnown : List Statement → List Statement → Option (ℕ × ℕ) → Type 0
AreKnown db other known = IfSome known (HaveSameFrame db other)
