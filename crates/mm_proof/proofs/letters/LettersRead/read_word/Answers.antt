use Rattle.std.proofs.Common.{[], ◌++◌, refl, length, slice_range, subst, sym, ◌∙◌}
use Rattle.mm_proof.specs.Refused.{StartsWith}
use Rattle.mm_proof.specs.Letters.{RefusesLetters, Continues, with_number, if_begun}
use Rattle.mm_spec.specs.CompressedProof.{letters_from, groups, group_faults}
use Rattle.mm_proof.proofs.LettersLaw.{on_same_err, letters_begin_with_letter, no_letters_past_end}
use Rattle.mm_proof.proofs.letters.LettersRead.read_word.Goals as goal

pub loop-place-init : goal.loop-place-init
loop-place-init g c =
    let word_letters_here = letters_from c.args.word.start
    (slice_range c.args.text.now c.args.word.start c.args.word.end) in
    record {
      theorem = refl;
      labels = refl;
      stands =
          record { stands = c.requires.stands_at; begins = c.begin_at.ensures.begins_at_place };
      reads =
          λ all_letters unread continues. subst
          (λ o. Continues (with_number c.args.self.now o) all_letters
          (word_letters_here ++ unread))
          (sym c.begin_at.ensures.begun_stays) continues;
    }

pub returns-in_err-read-clause-refuses : goal.returns-in_err-read-clause-refuses
returns-in_err-read-clause-refuses g c =
    let letters_begin_with_i =
    letters_begin_with_letter c.args.text.now c.loop-place.place c.args.word.end
    c.loop-place-test.true
    c.requires.end_le_length in
    let reads = rw letters_begin_with_i at c.loop-place.invariant.reads in
    on_same_err c.from_residual.result c.in_err-read.field-0.0
    (RefusesLetters (with_number c.args.self.now (if_begun c.args.number.now))
    (letters_from c.args.word.start
    (slice_range c.args.text.now c.args.word.start c.args.word.end))) c.from_residual.ensures.1
    (λ all_letters unread continues. subst
    (λ ls. StartsWith (group_faults (length ls) 0 0 (groups [] all_letters).0)
    c.in_err-read.field-0.0)
    c.loop-place.invariant.labels
    (c.in_err-read.ensures.refuses all_letters _ (reads all_letters unread continues)))

pub loop-place-preserved : goal.loop-place-preserved
loop-place-preserved g c =
    let letters_begin_with_i =
    letters_begin_with_letter c.args.text.now c.loop-place.place c.args.word.end
    c.loop-place-test.true
    c.requires.end_le_length in
    let reads = rw letters_begin_with_i at c.loop-place.invariant.reads in
    record {
      theorem = c.in_ok-read.ensures.reads.theorem ∙ c.loop-place.invariant.theorem;
      labels = c.in_ok-read.ensures.reads.labels ∙ c.loop-place.invariant.labels;
      stands = c.in_ok-read.ensures.is_read_after;
      reads = λ all_letters unread continues. c.in_ok-read.ensures.reads.continues all_letters _
          (reads all_letters unread continues);
    }

pub returns-clause-reads : goal.returns-clause-reads
returns-clause-reads g c = record {
  theorem = c.loop-place.invariant.theorem;
  labels = c.loop-place.invariant.labels;
  continues =
      rw (no_letters_past_end c.args.text.now c.loop-place.place c.args.word.end
      c.loop-place-test.false) at
      c.loop-place.invariant.reads;
}
