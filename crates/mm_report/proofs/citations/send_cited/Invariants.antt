use Rattle.std.proofs.Common.{◌≡◌, ◌<◌, true, false, [], length}
use Rattle.std.specs.Option.{option_map}
use Rattle.mm_spec.specs.Report.{separated}
use Rattle.mm_report.specs.Sent.{Sent}
use Rattle.mm_report.proofs.CitationLaw.{labels}
use Rattle.mm_report.proofs.citations.send_cited.Given as goal

abbrev pub invariant-loop-statement : goal.invariant-loop-statement
invariant-loop-statement g l = record {
  first_label_has_none_before : l.is_first_label ≡ true
      → labels l.database.statements (option_map (λ w. w.now) l.only) l.cited l.statement-index
      ≡ [];
  later_label_has_some_before : l.is_first_label ≡ false
      → 0 < length
      (labels l.database.statements (option_map (λ w. w.now) l.only) l.cited l.statement-index);
  sent : Sent (g.W.Write.contents l.fn.to) (g.W.Write.contents l.to) l.fn.sink l.sink
      (separated (labels l.database.statements
      (option_map (λ w. w.now) l.only) l.cited l.statement-index));
}
