use Rattle.std.proofs.Common.{◌≡◌, length, arith}
use Rattle.std.specs.Option.{option_copied}
use Rattle.mm_spec.specs.Assertion.{assertion_line, is_told}
use Rattle.mm_spec.specs.Output.{is_open_at}
use Rattle.mm_report.proofs.SentLaw.{sent_nothing, sent_both, sent_equal_text}
use Rattle.mm_report.proofs.AssertionLaw.{selected_texts_push}
use Rattle.mm_report.proofs.statements.send_statement_lines.Goals as goal

pub loop-statement-init : goal.loop-statement-init
loop-statement-init g c =
    record {
      statement_le_length = omega arith;
      sent = sent_nothing;
    }

pub loop-statement-preserved : goal.loop-statement-preserved
loop-statement-preserved g c =
    let d = c.args.database.now in
    let db = d.statements in
    record {
      statement_le_length = omega arith;
      sent =
          sent_equal_text _
          (selected_texts_push (λ k. assertion_line db (is_open_at d.read d.with_open k) k)
          (is_told db (option_copied c.args.only)) c.loop-statement.statement)
          (sent_both c.loop-statement.invariant.sent c.send_if_told.ensures);
    }

pub returns : goal.returns
returns g c =
    let all : c.loop-statement.statement ≡ length c.args.database.now.statements = omega arith in
    rw all at c.loop-statement.invariant.sent
