use Rattle.std.proofs.Common.{◌≡◌, ◌<◌, ◌≤◌, ◌^◌, ◌&&◌, ℕ, length, nat_lt, true}
use Rattle.mm_database.specs.DisjointIndex.{has_narrow_pair, has_symbol_by_width}
use Rattle.mm_frame.specs.LowerLists.{AreLowerLists}
use Rattle.mm_frame.proofs.lower_lists.lower_lists.Given as goal

abbrev pub invariant-loop-statement : goal.invariant-loop-statement
invariant-loop-statement g l = record {
  all_have_lists : (x j : ℕ) → has_symbol_by_width l.statements.list true x j ≡ true
      → x < length l.lists.items;
  few_lists : length l.lists.items ≤ 2 ^ 32;
  are_lists : AreLowerLists
      (λ y x j. nat_lt j l.statement && has_narrow_pair l.statements.list x y j) l.statement
      l.lists.items;
}
