use Rattle.std.proofs.Common.{◌≡◌, ◌++◌, map, take}
use Rattle.mm_database.specs.Frames.{shifted_index}
use Rattle.mm_database.proofs.frames.Frames.joined.Given as goal

abbrev pub invariant-loop-index : goal.invariant-loop-index
invariant-loop-index g l =
    l.indices.items
    ≡ l.initial.indices.items ++ map (shifted_index l.shift) (take l.index-index l.index-items)
