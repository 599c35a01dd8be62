use Rattle.std.proofs.Common.{ℕ, ◌≡◌, ◌+◌, ◌≤◌, ◌-◌, [], length, ap, arith, ◌∙◌}
use Rattle.std.specs.Prelude.{slice_index_or}
use Rattle.mm_spec.specs.Text.{Bytes}
use Rattle.mm_report.specs.Rows.{after_label}
use Rattle.mm_report.proofs.SentLaw.{sent_nothing, sent_both, sent_equal_text}
use Rattle.mm_report.proofs.UserLaw.{separated_rows, users_before, users_with_run, users_complete}
use Rattle.mm_report.proofs.UserLaw.{spaced_run_is_rows}
use Rattle.mm_report.proofs.sections.send_users.Goals as goal

pub loop-first-init : goal.loop-first-init
loop-first-init g c =
    record {
      next_le_rows = omega arith;
      last_is_marked = tt;
      sent = sent_nothing;
    }

pub loop-first-preserved : goal.loop-first-preserved
loop-first-preserved g c =
    let m = c.args.matrix.now in
    let labels : ℕ → Bytes = λ i. slice_index_or c.args.labels.now i [] in
    let first = c.in-Some.first in
    let end = c.run_end-end.result in
    let run_end_is = c.run_end-end.ensures in
    let user_found = c.in-Some.ensures.is_next in
    let first_le_end : first ≤ end = omega arith in
    let end_is_suc : end ≡ end - 1 + 1 = omega arith in
    let labels_as_rows = c.requires.as_many_labels in
    let end_le_labels : end ≤ length c.args.labels.now = omega (arith, labels_as_rows) in
    let spaced_are_run =
    c.spaced.ensures.labels_are_spaced
    ∙ spaced_run_is_rows m c.args.labels.now first end first_le_end end_le_labels in
    let users_with_next_run =
    users_with_run m labels c.args.column c.requires.column_lt_count c.loop-first.last_sent first
    end
    c.loop-first.invariant.last_is_marked user_found.1 first_le_end user_found.3
    run_end_is.run_is_marked in
    record {
      next_le_rows = omega arith;
      last_is_marked = run_end_is.run_is_marked (end - 1) (omega arith) (omega arith);
      sent =
          sent_equal_text _ (users_with_next_run
          ∙ ap (λ n. separated_rows (users_before m labels c.args.column n)) end_is_suc)
          (sent_both c.loop-first.invariant.sent
          (sent_equal_text _ (ap (after_label c.loop-first.last_sent) spaced_are_run)
          c.send_run.ensures));
    }

pub returns : goal.returns
returns g c =
    let labels : ℕ → Bytes = λ i. slice_index_or c.args.labels.now i [] in
    sent_equal_text _
    (users_complete c.args.matrix.now labels c.args.column c.requires.column_lt_count
    c.loop-first.last_sent c.args.matrix.now.rows c.loop-first.invariant.next_le_rows
    c.in_default.ensures.none_is_there)
    c.loop-first.invariant.sent
