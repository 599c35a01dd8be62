use Rattle.std.proofs.Common.{ℕ, ◌+◌, ◌<◌, ◌≤◌, get_or}
use Rattle.mm_lex.proofs.cuts.Cuts.from_places.Given as goal

abbrev pub invariant-loop-i : goal.invariant-loop-i
invariant-loop-i g l =
    (k : ℕ) → k + 1 < l.i → get_or l.places.items k 0 ≤ get_or l.places.items (k + 1) 0

abbrev pub invariant-loop-place : goal.invariant-loop-place
invariant-loop-place g l = (k : ℕ) → k < l.place-index → get_or l.place-items k 0 ≤ l.len
