use Rattle.std.proofs.Common.{◌≤◌, length}
use Rattle.std.specs.Prelude.{flat_map}
use Rattle.std.specs.List.{filter, range_with_len}
use Rattle.std.specs.Option.{option_copied}
use Rattle.mm_spec.specs.Assertion.{assertion_line, is_told}
use Rattle.mm_spec.specs.Output.{is_open_at}
use Rattle.mm_report.specs.Sent.{Sent}
use Rattle.mm_report.proofs.statements.send_statement_lines.Given as goal

abbrev pub invariant-loop-statement : goal.invariant-loop-statement
invariant-loop-statement g l = record {
  statement_le_length : l.statement ≤ length l.database.statements;
  sent : Sent (g.W.Write.contents l.fn.to) (g.W.Write.contents l.to) l.fn.sink l.sink
      (flat_map (λ k. assertion_line l.database.statements
      (is_open_at l.database.read l.database.with_open k) k)
      (filter (is_told l.database.statements (option_copied l.only))
      (range_with_len 0 l.statement)));
}
