use Rattle.std.proofs.Common.{◌∷◌, map, take}
use Rattle.mm_spec.specs.Assertion.{label_at}
use Rattle.mm_outline.specs.Statements.{statements}
use Rattle.mm_lists.specs.Lists.{AreJoined}
use Rattle.mm_stmt.proofs.spaced_labels.spaced_labels_of.Given as goal

abbrev pub invariant-loop-theorem : goal.invariant-loop-theorem
invariant-loop-theorem g l =
    AreJoined
    (map (λ k. 32 ∷ label_at (statements l.text l.tokens l.outlines) k)
    (take l.theorem-index l.theorems))
    l.bytes.items l.ends.items
