use Rattle.std.proofs.Common.{◌≡◌, ℕ, List, arith, length, map, ap₂}
use Rattle.mm_spec.specs.Text.{Bytes}
use Rattle.mm_spec.specs.Assertion.{label_at}
use Rattle.mm_spec.specs.Comparison.{shift_line}
use Rattle.mm_report.specs.Differences.{shift_row}
use Rattle.mm_report.proofs.SentLaw.{sent_nothing, sent_equal_text}
use Rattle.mm_report.proofs.AssertionLaw.{sent_row}
use Rattle.mm_report.proofs.differences.send_shift_lines.Goals as goal

pub loop-row-init : goal.loop-row-init
loop-row-init g c = record { row_le_count = omega arith; sent = sent_nothing }

pub loop-row-preserved : goal.loop-row-preserved
loop-row-preserved g c =
    let db = c.args.database.now.statements in
    let row_is =
    ap₂ (λ (l : Bytes) (cs : List ℕ).
    shift_line (record { label = l; cited = map (label_at db) cs })) c.label.ensures
    c.get.ensures.is_list in
    record {
      row_le_count = omega arith;
      sent =
          sent_row shift_line
          (shift_row c.args.database.now.statements c.args.lists.now c.args.labels.now)
          c.loop-row.invariant.sent
          (sent_equal_text _ row_is c.send_shift_line.ensures);
    }

pub returns : goal.returns
returns g c =
    let all : c.loop-row.row ≡ length c.args.lists.now = omega arith in
    rw all at c.loop-row.invariant.sent
