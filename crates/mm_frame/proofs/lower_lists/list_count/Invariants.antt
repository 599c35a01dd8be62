use Rattle.std.proofs.Common.{◌≡◌, ◌<◌, ◌≤◌, ◌^◌, ℕ, true}
use Rattle.mm_database.specs.DisjointIndex.{has_symbol_by_width}
use Rattle.mm_frame.proofs.lower_lists.list_count.Given as goal

abbrev pub invariant-loop-statement : goal.invariant-loop-statement
invariant-loop-statement g l = record {
  all_have_lists : (x j : ℕ) → j < l.statement
      → has_symbol_by_width l.statements.list true x j ≡ true → x < l.count;
  few_lists : l.count ≤ 2 ^ 32;
}
