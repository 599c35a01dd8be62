use Rattle.std.proofs.Common.{get_or}
use Rattle.std.proofs.lemmas.List.{take_all}
use Rattle.mm_spec.specs.Assertion.{assertion_line}
use Rattle.mm_spec.specs.Output.{is_open_at}
use Rattle.mm_spec.specs.Citation.{is_assertion}
use Rattle.mm_spec.proofs.FindsLaw.{passing_statement, got_lt_length}
use Rattle.mm_report.proofs.SentLaw.{sent_nothing}
use Rattle.mm_report.proofs.AssertionLaw.{sent_next}
use Rattle.mm_report.proofs.differences.send_assertions.Goals as goal

pub send_assertion-requires-clause-assertion_lt_length :
    goal.send_assertion-requires-clause-assertion_lt_length
send_assertion-requires-clause-assertion_lt_length g c =
    let db = c.args.database.now.statements in
    let k = get_or c.args.assertions.now c.loop-statement.statement-index 0 in
    let found = passing_statement db is_assertion k
    (c.requires.are_assertions c.loop-statement.statement-index 0 c.loop-statement-test.true) in
    got_lt_length db k found.0 found.1

pub send_assertion-requires-clause-is_assertion :
    goal.send_assertion-requires-clause-is_assertion
send_assertion-requires-clause-is_assertion g c =
    c.requires.are_assertions c.loop-statement.statement-index 0 c.loop-statement-test.true

pub send_assertion-requires-clause-have_dummies :
    goal.send_assertion-requires-clause-have_dummies
send_assertion-requires-clause-have_dummies g c =
    c.requires.have_dummies c.loop-statement.statement-index 0 c.loop-statement-test.true

pub loop-statement-init : goal.loop-statement-init
loop-statement-init g c = sent_nothing

pub loop-statement-preserved : goal.loop-statement-preserved
loop-statement-preserved g c =
    let d = c.args.database.now in
    sent_next (λ k. assertion_line d.statements (is_open_at d.read d.with_open k) k) _ 0
    c.loop-statement-test.true c.loop-statement.invariant
    (rw c.is_open-is_open.ensures at c.send_assertion.ensures)

pub returns : goal.returns
returns g c =
    rw (take_all c.loop-statement.statement-index c.args.assertions.now
    c.loop-statement-test.false) at c.loop-statement.invariant
