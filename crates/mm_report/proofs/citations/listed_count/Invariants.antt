use Rattle.std.proofs.Common.{◌≡◌, ◌≤◌, length}
use Rattle.std.specs.Option.{option_map}
use Rattle.mm_report.proofs.CitationLaw.{listed_before}
use Rattle.mm_report.proofs.citations.listed_count.Given as goal

abbrev pub invariant-loop-statement : goal.invariant-loop-statement
invariant-loop-statement g l = record {
  count_le_index : l.count ≤ l.statement-index;
  count_is : l.count
      ≡ length
      (listed_before l.database.statements (option_map (λ w. w.now) l.only) l.cited
      l.statement-index);
}
