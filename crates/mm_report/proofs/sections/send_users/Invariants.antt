use Rattle.std.proofs.Common.{◌≡◌, ◌≤◌, ◌-◌, IfSome, true, []}
use Rattle.std.specs.Prelude.{slice_index_or}
use Rattle.mm_rows.specs.Marks.{mark, first_after}
use Rattle.mm_report.specs.Sent.{Sent}
use Rattle.mm_report.proofs.UserLaw.{separated_rows, users_before}
use Rattle.mm_report.proofs.sections.send_users.Given as goal

abbrev pub invariant-loop-first : goal.invariant-loop-first
invariant-loop-first g l = record {
  next_le_rows : first_after l.last_sent ≤ l.matrix.rows;
  last_is_marked : IfSome l.last_sent (λ i. mark l.matrix i l.column ≡ true);
  sent : Sent (g.W.Write.contents l.fn.to) (g.W.Write.contents l.to) l.fn.sink l.sink
      (separated_rows
      (users_before l.matrix (λ i. slice_index_or l.labels i []) l.column
      (first_after l.last_sent)));
}

abbrev pub decreases-loop-first : goal.decreases-loop-first
decreases-loop-first g l = l.matrix.rows - first_after l.last_sent
