use Rattle.std.proofs.Common.{◌∙◌, ◌+◌, ap, None, [], sym, ◌≤◌, length}
use Rattle.std.proofs.lemmas.List.{take_rest}
use Rattle.mm_proof.proofs.BracketsLaw.{in_order_after_drop, read_steps_are_compressed_steps}
use Rattle.mm_proof.proofs.BracketsLaw.{faults_with_closed_brackets}
use Rattle.mm_proof.proofs.LettersLaw.{on_same_err}
use Rattle.mm_proof.specs.declared.refused.ProofRefused.TheVariants.{Memory}
use Rattle.mm_proof.specs.Letters.{letters_state}
use Rattle.mm_spec.specs.Citation.{is_theorem}
use Rattle.mm_outline.proofs.StatementsLaw.{passing_lt_length}
use Rattle.std.proofs.lemmas.List.Elements.{All-drop}
use Rattle.mm_proof.proofs.compressed.read_compressed.Goals as goal

pub read_all-requires-clause-in_order : goal.read_all-requires-clause-in_order
read_all-requires-clause-in_order g c =
    rw (c.text.ensures, take_rest)
    (in_order_after_drop c.args.database.now.text c.args.words.now _ 0 c.args.end
    c.requires.in_order)

pub returns-clause-steps_are_read : goal.returns-clause-steps_are_read
returns-clause-steps_are_read g c =
    let labels_begin_with_hypotheses =
    rw c.with_expected_capacity-labels.ensures at
    (rw (c.as_slice.ensures.value, c.frame.ensures.hypotheses) at
    c.in_ok-extend_from_slice.ensures.items) in
    c.into_steps.ensures
    ∙ read_steps_are_compressed_steps c.in_ok-label_count.ensures.reads labels_begin_with_hypotheses
    (c.in_ok-read_all.ensures.reads.theorem ∙ ap (λ s. s.theorem) c.none-letters.ensures)
    (rw (c.none-letters.ensures, c.text.ensures, take_rest) at
    c.in_ok-read_all.ensures.reads.steps)

pub returns-in_err-extend_from_slice-clause-fault_is_first :
    goal.returns-in_err-extend_from_slice-clause-fault_is_first
returns-in_err-extend_from_slice-clause-fault_is_first g c =
    on_same_err c.from_residual.result Memory _ c.from_residual.ensures.1 tt

pub returns-in_err-label_count-clause-fault_is_first :
    goal.returns-in_err-label_count-clause-fault_is_first
returns-in_err-label_count-clause-fault_is_first g c =
    on_same_err c.from_residual-in_err-label_count.result c.in_err-label_count.field-0.0 _
    c.from_residual-in_err-label_count.ensures.1 c.in_err-label_count.ensures.fault_is_first

pub read_all-requires-clause-none_read : goal.read_all-requires-clause-none_read
read_all-requires-clause-none_read g c =
    c.none-letters.ensures
    ∙ sym (ap (λ s. letters_state s.theorem s.labels [] None []) c.none-letters.ensures)

pub returns-clause-has_no_fault : goal.returns-clause-has_no_fault
returns-clause-has_no_fault g c =
    let labels_begin_with_hypotheses =
    rw c.with_expected_capacity-labels.ensures at
    (rw (c.as_slice.ensures.value, c.frame.ensures.hypotheses) at
    c.in_ok-extend_from_slice.ensures.items) in
    faults_with_closed_brackets c.args.database.now.statements c.args.theorem c.args.end
    c.in_ok-label_count.ensures.reads labels_begin_with_hypotheses
    ∙ rw (c.none-letters.ensures, c.text.ensures, take_rest) at
    c.in_ok-read_all.ensures.reads.letters_are_faultless

pub returns-in_err-read_all-clause-fault_is_first :
    goal.returns-in_err-read_all-clause-fault_is_first
returns-in_err-read_all-clause-fault_is_first g c =
    let labels_begin_with_hypotheses =
    rw c.with_expected_capacity-labels.ensures at
    (rw (c.as_slice.ensures.value, c.frame.ensures.hypotheses) at
    c.in_ok-extend_from_slice.ensures.items) in
    on_same_err c.from_residual-in_err-read_all.result c.in_err-read_all.field-0.0 _
    c.from_residual-in_err-read_all.ensures.1
    (rw (faults_with_closed_brackets c.args.database.now.statements c.args.theorem c.args.end
    c.in_ok-label_count.ensures.reads labels_begin_with_hypotheses)
    (rw (c.none-letters.ensures, c.text.ensures, take_rest) at
    c.in_err-read_all.ensures.fault_is_first))

pub read_labels-requires-clause-theorem_lt_length :
    goal.read_labels-requires-clause-theorem_lt_length
read_labels-requires-clause-theorem_lt_length g c =
    passing_lt_length is_theorem c.args.database.now.statements c.args.theorem c.requires.is_theorem

pub read_all-requires-clause-words_within : goal.read_all-requires-clause-words_within
read_all-requires-clause-words_within g c =
    rw (c.text.ensures, take_rest)
    (All-drop (λ w. (w.start ≤ w.end) × (w.end ≤ length c.args.database.now.text))
    (c.in_ok-label_count.label_count + 1) c.args.words.now c.requires.words_within)
