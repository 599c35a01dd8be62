use Rattle.std.proofs.Common.{◌≡◌, ◌+◌, ◌*◌, ◌/◌, map}
use Rattle.std.specs.List.{range_with_len}
use Rattle.mm_lex.proofs.cuts.Cuts.equal.Given as goal

abbrev pub invariant-loop-i : goal.invariant-loop-i
invariant-loop-i g l = l.places.items ≡ map (λ i. l.len * (i + 1) / l.count) (range_with_len 0 l.i)
