use Rattle.std.proofs.Common.{◌∙◌, ap, sym, subst, suc, arith}
use Rattle.mm_outline.specs.Parts.{as_tokens, AreWithin}
use Rattle.mm_proof.proofs.RisingLaw.{proof_words_rise, rest_is_in_order}
use Rattle.mm_proof.proofs.OrderLaw.{first_fault_is_refusal}
use Rattle.mm_proof.proofs.LettersLaw.{on_err_then}
use Rattle.mm_proof.proofs.ReadLaw.{theorem_is_provable, theorem_lt_length, dot_is_end}
use Rattle.mm_proof.proofs.ReadLaw.{compressed_faults_at, normal_faults_at, normal_steps_at}
use Rattle.mm_proof.proofs.ReadLaw.{compressed_steps_at, empty_proof_faults_at, word_is_code}
use Rattle.mm_outline.proofs.ResultsLaw.{ok_then}
use Rattle.mm_steps.specs.TheoremSteps.{theorem_steps}
use Rattle.mm_spec.specs.Lawful.{least}
use Rattle.mm_proof.proofs.reader.read_proof.Goals as goal

pub read_normal-requires-clause-theorem_lt_length :
    goal.read_normal-requires-clause-theorem_lt_length
read_normal-requires-clause-theorem_lt_length g c =
    theorem_lt_length (theorem_is_provable c.args.database.now c.args.theorem
    c.proof_words-words.result.now c.requires c.proof_words-words.ensures.words_are)

pub read_normal-requires-clause-words_rise : goal.read_normal-requires-clause-words_rise
read_normal-requires-clause-words_rise g c =
    proof_words_rise c.args.database.now c.len.ensures.is_read c.len.ensures.are_counted
    (theorem_is_provable c.args.database.now c.args.theorem c.proof_words-words.result.now
    c.requires
    c.proof_words-words.ensures.words_are)

pub read_compressed-requires-clause-in_order : goal.read_compressed-requires-clause-in_order
read_compressed-requires-clause-in_order g c =
    let is_provable = theorem_is_provable c.args.database.now c.args.theorem
    c.proof_words-words.result.now c.requires c.proof_words-words.ensures.words_are in
    rest_is_in_order c.args.database.now c.len.ensures.is_read c.len.ensures.are_counted is_provable
    c.in-Some.ensures.cases.0 (dot_is_end is_provable c.end_at-end.ensures)

pub returns-then-eq-clause-fault_is_first : goal.returns-then-eq-clause-fault_is_first
returns-then-eq-clause-fault_is_first g c =
    let rest = c.in-Some.rest.now in
    let is_provable = theorem_is_provable c.args.database.now c.args.theorem
    c.proof_words-words.result.now c.requires c.proof_words-words.ensures.words_are in
    on_err_then c.read_compressed.result c.read_compressed.ensures.fault_is_first
    (λ refusal starts_with_refusal. rw (compressed_faults_at is_provable c.in-Some.ensures.cases.0
    c.end_at-end.ensures
    (word_is_code c.in-Some.first.now c.bytes.ensures c.text.ensures c.as_slice.ensures c.eq.ensures
    c.if-eq.true))
    (first_fault_is_refusal c.args.database.now.statements c.args.theorem c.end_at-end.result 0
    (as_tokens c.args.database.now.text rest) refusal
    (rest_is_in_order c.args.database.now c.len.ensures.is_read c.len.ensures.are_counted
    is_provable
    c.in-Some.ensures.cases.0 (dot_is_end is_provable c.end_at-end.ensures))
    starts_with_refusal))

pub returns-clause-steps_are_read : goal.returns-clause-steps_are_read
returns-clause-steps_are_read g c =
    let is_provable = theorem_is_provable c.args.database.now c.args.theorem
    c.proof_words-words.result.now c.requires c.proof_words-words.ensures.words_are in
    ok_then c.read_normal.result c.read_normal.ensures.steps_are_read
    (λ steps steps_are_read. steps_are_read ∙ ap (theorem_steps c.args.theorem)
    (sym (normal_steps_at is_provable c.in-Some.ensures.cases.0
    (word_is_code c.in-Some.first.now c.bytes.ensures c.text.ensures c.as_slice.ensures c.eq.ensures
    c.if-eq.false))))

pub returns-clause-has_no_fault : goal.returns-clause-has_no_fault
returns-clause-has_no_fault g c =
    let is_provable = theorem_is_provable c.args.database.now c.args.theorem
    c.proof_words-words.result.now c.requires c.proof_words-words.ensures.words_are in
    ok_then c.read_normal.result c.read_normal.ensures.has_no_fault
    (λ steps no_faults. normal_faults_at is_provable c.in-Some.ensures.cases.0
    (word_is_code c.in-Some.first.now c.bytes.ensures c.text.ensures c.as_slice.ensures c.eq.ensures
    c.if-eq.false)
    ∙ no_faults)

pub returns-clause-fault_is_first : goal.returns-clause-fault_is_first
returns-clause-fault_is_first g c =
    let is_provable = theorem_is_provable c.args.database.now c.args.theorem
    c.proof_words-words.result.now c.requires c.proof_words-words.ensures.words_are in
    on_err_then c.read_normal.result c.read_normal.ensures.fault_is_first
    (λ refusal is_refusal. rw (normal_faults_at is_provable c.in-Some.ensures.cases.0
    (word_is_code c.in-Some.first.now c.bytes.ensures c.text.ensures c.as_slice.ensures c.eq.ensures
    c.if-eq.false))
    is_refusal)

pub returns-then-eq-clause-steps_are_read : goal.returns-then-eq-clause-steps_are_read
returns-then-eq-clause-steps_are_read g c =
    let is_provable = theorem_is_provable c.args.database.now c.args.theorem
    c.proof_words-words.result.now c.requires c.proof_words-words.ensures.words_are in
    ok_then c.read_compressed.result c.read_compressed.ensures.steps_are_read
    (λ steps steps_are_read. steps_are_read ∙ ap (theorem_steps c.args.theorem)
    (sym (compressed_steps_at is_provable c.in-Some.ensures.cases.0
    (word_is_code c.in-Some.first.now c.bytes.ensures c.text.ensures c.as_slice.ensures c.eq.ensures
    c.if-eq.true))))

pub returns-then-eq-clause-has_no_fault : goal.returns-then-eq-clause-has_no_fault
returns-then-eq-clause-has_no_fault g c =
    let is_provable = theorem_is_provable c.args.database.now c.args.theorem
    c.proof_words-words.result.now c.requires c.proof_words-words.ensures.words_are in
    ok_then c.read_compressed.result c.read_compressed.ensures.has_no_fault
    (λ steps no_faults. compressed_faults_at is_provable c.in-Some.ensures.cases.0
    c.end_at-end.ensures
    (word_is_code c.in-Some.first.now c.bytes.ensures c.text.ensures c.as_slice.ensures c.eq.ensures
    c.if-eq.true)
    ∙ no_faults)

pub read_compressed-requires-clause-words_within : goal.read_compressed-requires-clause-words_within
read_compressed-requires-clause-words_within g c =
    let words_are_within =
    subst (AreWithin c.args.database.now.text) c.in-Some.ensures.cases.0
    c.proof_words-words.ensures.words_within in
    λ i d i_lt_length. words_are_within (suc i) d (omega (arith, i_lt_length))

pub returns-in_default-clause-fault_is_first : goal.returns-in_default-clause-fault_is_first
returns-in_default-clause-fault_is_first g c =
    let is_provable = theorem_is_provable c.args.database.now c.args.theorem
    c.proof_words-words.result.now c.requires c.proof_words-words.ensures.words_are in
    rw c.refused.ensures
    (ap least (empty_proof_faults_at is_provable c.end_at-end.ensures c.in_default.ensures.cases))
