use Rattle.std.proofs.Common.{◌≡◌, ◌<◌, ℕ, List, length, slice_get, get_or, Some, false}
use Rattle.mm_database.specs.Names.{find, is_variable_in, names_of}
use Rattle.mm_database.proofs.names.NameTable.variable_flags.Given as goal

abbrev pub invariant-loop-i : goal.invariant-loop-i
invariant-loop-i g l = record {
  count : length l.variable_flags.items ≡ l.i;
  each : (j : ℕ) (w : List ℕ) → j < l.i
      → slice_get (names_of l.self-inside.symbols) j ≡ Some w
      → get_or l.variable_flags.items j false
      ≡ is_variable_in (find l.self-inside.symbols w);
}
