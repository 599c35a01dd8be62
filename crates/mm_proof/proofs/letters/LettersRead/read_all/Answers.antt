use Rattle.std.proofs.Common.{◌≡◌, ◌∙◌, ◌+◌, [], ap, sym, subst, length, drop, is_some, arith}
use Rattle.std.proofs.Common.{get_or}
use Rattle.mm_spec.specs.declared.Word.{Word}
use Rattle.mm_spec.specs.CompressedProof.{letters_of, letter_faults, groups, group_faults}
use Rattle.mm_spec.specs.CompressedProof.{group_steps}
use Rattle.mm_outline.specs.Parts.{as_tokens}
use Rattle.mm_proof.specs.Letters.{Continues, with_number, if_begun}
use Rattle.mm_spec.specs.Text.{fault}
use Rattle.mm_spec.specs.declared.Code.TheVariants.{OpenNumber}
use Rattle.mm_proof.specs.declared.refused.ProofRefused.TheVariants.{Fault as Faulty}
use Rattle.mm_proof.specs.Refused.{StartsWith}
use Rattle.std.proofs.lemmas.List.{drop_more}
use Rattle.mm_proof.proofs.LettersLaw.{on_same_err, StandsBefore}
use Rattle.mm_proof.proofs.LettersLaw.{continues_from_start, continues_at_end, steps_are_all_steps}
use Rattle.mm_proof.proofs.LettersLaw.{letter_fault_is_first, number_without_letters_is_not_begun}
use Rattle.mm_proof.proofs.LettersLaw.{open_number_is_first_fault, number_with_letters_is_begun}
use Rattle.mm_proof.proofs.LettersLaw.{no_fault_at_end, words_have_letters, stands_before_rest}
use Rattle.mm_proof.proofs.letters.LettersRead.read_all.Goals as goal

pub returns-in_err-read_word-clause-fault_is_first :
    goal.returns-in_err-read_word-clause-fault_is_first
returns-in_err-read_word-clause-fault_is_first g c =
    let all_letters = letters_of (as_tokens c.args.text.now c.args.words.now) in
    let continues_at_start = continues_from_start c.requires.none_read all_letters in
    let refusal = c.in_err-read_word.field-0.0 in
    let words = c.args.words.now in
    let i = c.loop-word.word-index in
    let continues_at_word =
    subst (λ vs. Continues (with_number c.loop-word.self (if_begun c.loop-word.begun)) all_letters
    (letters_of (as_tokens c.args.text.now vs)))
    (drop_more words i (record { start = 0; end = 0 }) c.loop-word-test.true)
    (c.loop-word.invariant.reads all_letters continues_at_start) in
    on_same_err c.from_residual.result refusal
    (λ refusal. StartsWith (letter_faults (length c.args.self.now.labels) c.args.end all_letters)
    refusal)
    c.from_residual.ensures.1
    (letter_fault_is_first (length c.args.self.now.labels) c.args.end all_letters refusal
    (subst (λ ls. StartsWith (group_faults (length ls) 0 0 (groups [] all_letters).0) refusal)
    c.loop-word.invariant.labels
    (c.in_err-read_word.ensures.refuses all_letters
    (letters_of (as_tokens c.args.text.now (drop (i + 1) words))) continues_at_word)))

pub returns-then-begun-gt0-clause-fault_is_first : goal.returns-then-begun-gt0-clause-fault_is_first
returns-then-begun-gt0-clause-fault_is_first g c =
    let all_letters = letters_of (as_tokens c.args.text.now c.args.words.now) in
    let continues_at_start = continues_from_start c.requires.none_read all_letters in
    let continues_after_all =
    continues_at_end
    (with_number c.loop-word.self (if_begun c.loop-word.begun)) c.args.text.now c.args.words.now
    c.loop-word.word-index all_letters c.loop-word-test.false
    (c.loop-word.invariant.reads all_letters continues_at_start) in
    let letters_are_some =
    words_have_letters 0 c.args.end c.args.text.now c.args.words.now c.requires.in_order
    (sym c.is_empty.ensures ∙ c.if-is_empty.false) in
    let number_is_open =
    ap is_some (number_with_letters_is_begun c.loop-word.begun c.if-begun-gt0.true) in
    rw c.refused-then-begun-gt0.ensures
    (subst (λ ls. StartsWith (letter_faults (length ls) c.args.end all_letters)
    (Faulty (fault c.args.end OpenNumber))) c.loop-word.invariant.labels
    (open_number_is_first_fault
    (with_number c.loop-word.self (if_begun c.loop-word.begun)) c.args.end all_letters
    number_is_open letters_are_some
    continues_after_all))

pub returns-clause-reads : goal.returns-clause-reads
returns-clause-reads g c =
    let all_letters = letters_of (as_tokens c.args.text.now c.args.words.now) in
    let continues_at_start = continues_from_start c.requires.none_read all_letters in
    let continues_after_all =
    continues_at_end
    (with_number c.loop-word.self (if_begun c.loop-word.begun)) c.args.text.now c.args.words.now
    c.loop-word.word-index all_letters c.loop-word-test.false
    (c.loop-word.invariant.reads all_letters continues_at_start) in
    let letters_are_some =
    words_have_letters 0 c.args.end c.args.text.now c.args.words.now c.requires.in_order
    (sym c.is_empty.ensures ∙ c.if-is_empty.false) in
    let value_is_0 : c.loop-word.begun.value ≡ 0 = omega arith in
    let number_is_none =
    ap is_some (number_without_letters_is_not_begun c.loop-word.begun value_is_0) in
    record {
      theorem = c.loop-word.invariant.theorem;
      steps =
          steps_are_all_steps (with_number c.loop-word.self (if_begun c.loop-word.begun))
          all_letters continues_after_all
          ∙ ap (λ ls. group_steps ls [] 0 (groups [] all_letters).0) c.loop-word.invariant.labels;
      letters_are_faultless =
          subst (λ ls. letter_faults (length ls) c.args.end all_letters
          ≡ []) c.loop-word.invariant.labels
          (no_fault_at_end (with_number c.loop-word.self (if_begun c.loop-word.begun)) c.args.end
          all_letters
          number_is_none letters_are_some continues_after_all);
    }

pub read_word-requires-clause-start_le_end : goal.read_word-requires-clause-start_le_end
read_word-requires-clause-start_le_end g c =
    (c.requires.words_within c.loop-word.word-index _ c.loop-word-test.true).0

pub read_word-requires-clause-end_le_length : goal.read_word-requires-clause-end_le_length
read_word-requires-clause-end_le_length g c =
    (c.requires.words_within c.loop-word.word-index _ c.loop-word-test.true).1

pub loop-word-preserved : goal.loop-word-preserved
loop-word-preserved g c =
    let text = c.args.text.now in
    let words = c.args.words.now in
    let i = c.loop-word.word-index in
    let no_word : Word = record { start = 0; end = 0 } in
    let drop_begins_with_word = drop_more words i no_word c.loop-word-test.true in
    let word_is_within = c.requires.words_within i no_word c.loop-word-test.true in
    let word_is_read = c.in_ok-read_word.ensures in
    record {
      theorem = word_is_read.reads.theorem ∙ c.loop-word.invariant.theorem;
      labels = word_is_read.reads.labels ∙ c.loop-word.invariant.labels;
      stands =
          stands_before_rest c.loop-word.self _ text (get_or words i no_word) (drop (i + 1) words)
          c.args.end word_is_within.0 word_is_within.1
          (subst (λ vs. StandsBefore c.loop-word.self (as_tokens text vs) c.args.end)
          drop_begins_with_word
          c.loop-word.invariant.stands) word_is_read.stands_after;
      reads =
          λ all_letters continues. word_is_read.reads.continues all_letters
          (letters_of (as_tokens text (drop (i + 1) words)))
          (subst (λ vs. Continues (with_number c.loop-word.self (if_begun c.loop-word.begun))
          all_letters
          (letters_of (as_tokens text vs))) drop_begins_with_word
          (c.loop-word.invariant.reads all_letters continues));
    }
