use Rattle.std.proofs.Common.{ap, sym, ◌∙◌, get_or}
use Rattle.mm_spec.specs.Text.{fault}
use Rattle.mm_spec.specs.NormalProof.{usable}
use Rattle.mm_spec.specs.declared.Word.{Word}
use Rattle.mm_spec.specs.declared.Code.TheVariants.{IncompleteProof, UnusableLabel}
use Rattle.mm_outline.specs.Parts.{token_of}
use Rattle.mm_proof.proofs.LeastLaw.{fault_of_faulty_word_is_least, question_mark_fault}
use Rattle.mm_proof.proofs.LeastLaw.{unusable_label_fault}
use Rattle.mm_proof.proofs.ReadLaw.{word_is_code}
use Rattle.mm_proof.proofs.LettersLaw.{on_same_err}
use Rattle.mm_proof.specs.declared.refused.ProofRefused.TheVariants.{Memory}
use Rattle.mm_proof.proofs.reader.read_normal.Goals as goal

pub returns-then-eq-clause-fault_is_first : goal.returns-then-eq-clause-fault_is_first
returns-then-eq-clause-fault_is_first g c =
    let db = c.args.database.now.statements in
    let text = c.args.database.now.text in
    let no_word : Word = record { start = 0; end = 0 } in
    let w = get_or c.args.words.now c.loop-word.word-index no_word in
    rw c.refused.ensures
    (fault_of_faulty_word_is_least text c.args.words.now c.loop-word.word-index no_word
    c.loop-word-test.true db
    c.args.theorem
    (fault w.start IncompleteProof) c.requires.words_rise c.loop-word.invariant.faults
    (question_mark_fault db c.args.theorem (token_of text w)
    (word_is_code w c.bytes-label.ensures c.text-text.ensures c.as_slice.ensures c.eq.ensures
    c.if-eq.true)))

pub returns-in-None-clause-fault_is_first : goal.returns-in-None-clause-fault_is_first
returns-in-None-clause-fault_is_first g c =
    let db = c.args.database.now.statements in
    let text = c.args.database.now.text in
    let no_word : Word = record { start = 0; end = 0 } in
    let w = get_or c.args.words.now c.loop-word.word-index no_word in
    rw c.refused-in-None.ensures
    (fault_of_faulty_word_is_least text c.args.words.now c.loop-word.word-index no_word
    c.loop-word-test.true db
    c.args.theorem (fault w.start UnusableLabel) c.requires.words_rise c.loop-word.invariant.faults
    (unusable_label_fault db c.args.theorem (token_of text w)
    (word_is_code w c.bytes-label.ensures c.text-text.ensures c.as_slice.ensures c.eq.ensures
    c.if-eq.false)
    (ap (usable db c.args.theorem) (sym (rw c.text-text.ensures at c.bytes-label.ensures))
    ∙ c.in-None.ensures)))

pub returns-in_err-push-in-Some-clause-fault_is_first :
    goal.returns-in_err-push-in-Some-clause-fault_is_first
returns-in_err-push-in-Some-clause-fault_is_first g c =
    on_same_err c.from_residual.result Memory _ c.from_residual.ensures.1 tt
