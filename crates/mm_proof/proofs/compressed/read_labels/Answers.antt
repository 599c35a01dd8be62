use Rattle.std.proofs.Common.{◌∙◌, ◌+◌, ap, sym, take, drop, get_or, [], arith, length}
use Rattle.mm_spec.specs.declared.Word.{Word}
use Rattle.mm_spec.specs.CompressedProof.{bracketed, compressed_faults}
use Rattle.mm_spec.specs.NormalProof.{usable}
use Rattle.mm_outline.specs.Parts.{as_tokens, token_of}
use Rattle.mm_proof.proofs.BracketsLaw.{with_labels_before, unusable_label_is_first_fault}
use Rattle.mm_proof.proofs.BracketsLaw.{open_brackets_is_first_fault, tokens_begin_with_word}
use Rattle.mm_proof.proofs.BracketsLaw.{no_tokens_past_end, brackets_close}
use Rattle.mm_proof.proofs.ReadLaw.{word_is_code}
use Rattle.mm_proof.proofs.LettersLaw.{on_same_err}
use Rattle.mm_proof.specs.declared.refused.ProofRefused.TheVariants.{Memory}
use Rattle.mm_proof.proofs.compressed.read_labels.Goals as goal

pub returns-in-None-clause-fault_is_first : goal.returns-in-None-clause-fault_is_first
returns-in-None-clause-fault_is_first g c =
    let db = c.args.database.now.statements in
    let text = c.args.database.now.text in
    let words = c.args.words.now in
    let n = c.loop-index.index in
    let no_word : Word = record { start = 0; end = 0 } in
    let w = get_or words n no_word in
    let earlier_labels = as_tokens text (take n words) in
    let first_fault =
    unusable_label_is_first_fault db c.args.theorem c.args.end earlier_labels (token_of text w)
    (as_tokens text (drop (n + 1) words)) c.loop-index.invariant.labels_are_faultless
    (word_is_code w c.bytes-label.ensures c.text-text.ensures c.as_slice.ensures c.eq.ensures
    c.if-eq.false)
    (ap (usable db c.args.theorem) (sym (rw c.text-text.ensures at c.bytes-label.ensures))
    ∙ c.in-None.ensures) in
    rw c.refused.ensures (
      first_fault.0,
      ap (compressed_faults db c.args.theorem c.args.end)
          (c.loop-index.invariant.bracketed
          ∙ ap (λ ts. with_labels_before earlier_labels (bracketed ts))
          (tokens_begin_with_word text words n no_word c.loop-index-test.true)) ∙ first_fault.1,
    )

pub returns-clause-fault_is_first : goal.returns-clause-fault_is_first
returns-clause-fault_is_first g c =
    let db = c.args.database.now.statements in
    let text = c.args.database.now.text in
    let words = c.args.words.now in
    let n = c.loop-index.index in
    let earlier_labels = as_tokens text (take n words) in
    rw c.refused-2.ensures (
      [],
      ap (compressed_faults db c.args.theorem c.args.end)
          (c.loop-index.invariant.bracketed
          ∙ ap (λ ts. with_labels_before earlier_labels (bracketed ts))
          (no_tokens_past_end text words n c.loop-index-test.false))
          ∙ open_brackets_is_first_fault db c.args.theorem c.args.end earlier_labels
          c.loop-index.invariant.labels_are_faultless,
    )

pub returns-in_err-push-in-Some-clause-fault_is_first :
    goal.returns-in_err-push-in-Some-clause-fault_is_first
returns-in_err-push-in-Some-clause-fault_is_first g c =
    on_same_err c.from_residual.result Memory _ c.from_residual.ensures.1 tt

pub returns-then-eq-clause-reads : goal.returns-then-eq-clause-reads
returns-then-eq-clause-reads g c =
    let text = c.args.database.now.text in
    let words = c.args.words.now in
    let n = c.loop-index.index in
    let no_word : Word = record { start = 0; end = 0 } in
    let w = get_or words n no_word in
    let earlier_labels = as_tokens text (take n words) in
    record {
      n_lt_length = c.loop-index-test.true;
      brackets =
          c.loop-index.invariant.bracketed
          ∙ ap (λ ts. with_labels_before earlier_labels (bracketed ts))
          (tokens_begin_with_word text words n no_word c.loop-index-test.true)
          ∙ brackets_close earlier_labels (token_of text w)
          (as_tokens text (drop (n + 1) words))
          (word_is_code w c.bytes-label.ensures c.text-text.ensures c.as_slice.ensures c.eq.ensures
          c.if-eq.true);
      labels = c.loop-index.invariant.labels;
      label_count = c.loop-index.invariant.label_count;
      labels_are_faultless = c.loop-index.invariant.labels_are_faultless;
    }

pub bytes-label-requires-clause-start_le_end : goal.bytes-label-requires-clause-start_le_end
bytes-label-requires-clause-start_le_end g c =
    (c.requires.words_within c.loop-index.index _ c.loop-index-test.true).0

pub bytes-label-requires-clause-end_le_length : goal.bytes-label-requires-clause-end_le_length
bytes-label-requires-clause-end_le_length g c =
    let no_word : Word = record { start = 0; end = 0 } in
    let end_le_length =
    (c.requires.words_within c.loop-index.index no_word c.loop-index-test.true).1 in
    let lengths_equal = ap length c.text-text.ensures in
    omega (arith, end_le_length, lengths_equal)
