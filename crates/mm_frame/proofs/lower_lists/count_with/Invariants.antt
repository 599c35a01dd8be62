use Rattle.std.proofs.Common.{◌≡◌, ◌<◌, ◌≤◌, ◌^◌, ℕ, take, true}
use Rattle.mm_spec.specs.Derivation.{is_member}
use Rattle.mm_frame.proofs.lower_lists.count_with.Given as goal

abbrev pub invariant-loop-symbol : goal.invariant-loop-symbol
invariant-loop-symbol l = record {
  count_le : l.count ≤ l.most;
  all_have_lists : (x : ℕ) → is_member (take l.symbol-index l.symbols) x ≡ true → x < l.most;
  few_lists : l.count ≤ 2 ^ 32 → l.most ≤ 2 ^ 32;
}
