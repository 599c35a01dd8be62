use Rattle.std.proofs.Common.{◌≡◌, ℕ, ◌<◌, ◌≤◌, length, get_or, false}
use Rattle.mm_spec.specs.Frame.{is_variable_number, symbol_names}
use Rattle.mm_machine.proofs.owners.list_variable_flags.Given as goal

abbrev pub invariant-loop-number : goal.invariant-loop-number
invariant-loop-number g l = record {
  count_is : length l.variables.items ≡ l.number;
  number_le : l.number ≤ length (symbol_names l.database.statements);
  are_variables : (s : ℕ) → s < l.number
      → get_or l.variables.items s false ≡ is_variable_number l.database.statements s;
}
