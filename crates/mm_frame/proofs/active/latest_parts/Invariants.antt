use Rattle.std.proofs.Common.{◌≡◌, ℕ, ◌+◌, ◌≤◌, length, get_or}
use Rattle.mm_frame.specs.Latest.{is_part, IsLatest}
use Rattle.mm_frame.proofs.active.latest_parts.Given as goal

abbrev pub invariant-loop-statement : goal.invariant-loop-statement
invariant-loop-statement g l = record {
  count : length l.latest.items ≡ l.statement + 1;
  each_is_latest : (i : ℕ) → i ≤ l.statement → IsLatest (is_part l.essentials_alone)
      l.statements.list i (get_or l.latest.items i 0);
}
