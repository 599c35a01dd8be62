-- The labels of the theorems, and those of adjacent ones.
use Rattle.std.proofs.Common.{rules, arith, ◌≡◌, ℕ, List, ◌∷◌, flat_map, slice_range, All, IsTrue}
use Rattle.std.proofs.lemmas.Grind.{common_steps}
use Rattle.std.proofs.lemmas.List.{take-map, drop-map}
use Rattle.std.proofs.lemmas.List.Elements.{All-from_recursion}
use Rattle.std.proofs.lemmas.List.Folds.{flat_map-map}
use Rattle.mm_spec.specs.Statement.{Statement}
use Rattle.mm_spec.specs.Assertion.{label_at}
use Rattle.mm_spec.specs.Output.{is_theorem_at, theorems}
use Rattle.mm_spec.proofs.FindsLaw.{each_filter, each_any}
use Rattle.mm_lists.specs.Lists.{joined}
use Rattle.mm_database.specs.Database.{spaced_labels}

-- each of the theorems is one, so that a caller may read and check it
pub theorems_are : (db : List Statement) → All (λ k. IsTrue (is_theorem_at db k)) (theorems db)
theorems_are db = search (rules, arith, All-from_recursion, each_filter, each_any)

-- the labels of adjacent theorems
pub spaced_slice : (db : List Statement) (i j : ℕ)
    → joined (slice_range (spaced_labels db) i j)
    ≡ flat_map (λ k. 32 ∷ label_at db k) (slice_range (theorems db) i j)
spaced_slice db i j = grind (arith, common_steps, drop-map, take-map, flat_map-map, slice_range)
