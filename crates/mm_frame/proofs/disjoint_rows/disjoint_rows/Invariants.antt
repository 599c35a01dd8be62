use Rattle.std.proofs.Common.{◌≡◌, map, take}
use Rattle.mm_frame.proofs.disjoint_rows.disjoint_rows.Given as goal

abbrev pub invariant-loop-row : goal.invariant-loop-row
invariant-loop-row g l = l.joined ≡ map (λ v. v.items) (take l.row-index l.row-items)
