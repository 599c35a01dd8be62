-- Open theorems, and statements among which they count as axioms (this project's own). In the
-- Metamath book a `?` in a proof stands for steps that aren't known yet; an open theorem is one
-- whose whole proof is a `?`.
use Rattle.std.specs.Prelude.{Bool, true, false, ◌&&◌, List, [], ◌∷◌, map, bytes_eq, codes}
use Rattle.mm_spec.specs.Text.{Token}
use Rattle.mm_spec.specs.Statement.{Statement, axiomatic, provable}

-- whether nothing is known of a proof: its words are `?`, or as a compressed proof `( ) ?`
abbrev pub is_open_proof : List Token → Bool
is_open_proof (t ∷ []) = bytes_eq t.word (codes "?")
is_open_proof (t ∷ u ∷ v ∷ []) =
    bytes_eq t.word (codes "(") && bytes_eq u.word (codes ")") && bytes_eq v.word (codes "?")
is_open_proof _ = false

abbrev pub is_open_theorem : Statement → Bool
is_open_theorem (provable l k xs e ps d) = is_open_proof ps
is_open_theorem _ = false

-- an open theorem becomes the `$a` with its label, symbols and end; any other statement stays
abbrev pub as_axiom : Statement → Statement
as_axiom (provable l k xs e ps d) =
    elim (is_open_proof ps) [ true ↦ axiomatic l k xs d | false ↦ provable l k xs e ps d ]
as_axiom s = s

-- the statements as they count: with the flag open theorems count as axioms, without it each
-- statement counts as what it is
abbrev pub open_as_axioms : (with_open : Bool) → List Statement → List Statement
open_as_axioms true db = map as_axiom db
open_as_axioms false db = db
