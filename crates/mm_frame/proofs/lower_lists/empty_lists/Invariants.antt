use Rattle.std.proofs.Common.{◌≡◌, ◌<◌, ℕ, length, get_or, []}
use Rattle.mm_frame.proofs.lower_lists.empty_lists.Given as goal

abbrev pub invariant-loop : goal.invariant-loop
invariant-loop g l = record {
  count : length l.lists.items ≡ l.counter;
  are_empty : (x : ℕ) (d : _) → x < length l.lists.items → (get_or l.lists.items x d).items ≡ [];
}
