use Rattle.std.proofs.Common.{◌≡◌, length}
use Rattle.mm_rows.specs.Indices.{AreIndicesOfFirst}
use Rattle.mm_rows.proofs.indices.set_indices.Given as goal

abbrev pub invariant-loop-index : goal.invariant-loop-index
invariant-loop-index l =
    (length l.indices ≡ length l.initial.indices) × AreIndicesOfFirst l.statements l.index l.indices
