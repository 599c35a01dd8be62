use Rattle.std.proofs.Common.{◌≡◌, ◌∙◌, ℕ, List, [], sym, subst}
use Rattle.std.proofs.lemmas.Bool.{not-false}
use Rattle.mm_spec.specs.Readings.{bytes_of}
use Rattle.mm_spec.specs.Words.{words_between}
use Rattle.mm_lex.specs.Pieces.{side_reading}
use Rattle.mm_lex.specs.Between.{side}
use Rattle.mm_lex.specs.Plain.{IsPlainWord}
use Rattle.mm_lex.proofs.PiecesLaw.{append_reading_is_complete, append_reading_plain}
use Rattle.mm_lex.proofs.PiecesLaw.{append_reading_some, ignored_inside, next_word_is_read}
use Rattle.mm_lex.proofs.PiecesLaw.{not_some_is_none, plain_words_are_skipped}
use Rattle.mm_lex.proofs.modes.ModeReading.read_rest.Goals as goal

pub returns-then-is_some-2 : goal.returns-then-is_some-2
returns-then-is_some-2 g c p =
    let before = c.loop-found.invariant in
    let text = c.args.text.now in
    let next_from = c.next_word.new.self.from in
    sym (next_word_is_read _ text c.loop-found.scanner.from next_from c.args.to
    c.in-Some.found.word before.texts_equal c.in-Some.ensures.is_next_word _
    (side_reading p (side c.loop-found.self)) _ (before.readings_equal p)
    (c.in_ok-read_word.ensures p)
    ∙ append_reading_some text (side_reading p (side c.read_word.new.self))
    (words_between text next_from c.args.to)
    (sym c.is_some-then-not-found.ensures ∙ c.if-is_some-2.true))

pub loop-found-preserved-else-is_some-2 : goal.loop-found-preserved-else-is_some-2
loop-found-preserved-else-is_some-2 g c =
    let before = c.loop-found.invariant in
    record {
      texts_equal = c.in-Some.ensures.text_is ∙ before.texts_equal;
      no_fault = not_some_is_none _ (sym c.is_some-then-not-found.ensures ∙ c.if-is_some-2.false);
      readings_equal = λ p. next_word_is_read _ c.args.text.now c.loop-found.scanner.from
          c.next_word.new.self.from c.args.to c.in-Some.found.word before.texts_equal
          c.in-Some.ensures.is_next_word _ (side_reading p (side c.loop-found.self)) _
          (before.readings_equal p) (c.in_ok-read_word.ensures p);
    }

pub loop-found-preserved-then-is_open : goal.loop-found-preserved-then-is_open
loop-found-preserved-then-is_open g c =
    let before = c.loop-found.invariant in
    record {
      texts_equal = c.skip_plain.ensures.text_is ∙ c.in-Some.ensures.text_is ∙ before.texts_equal;
      no_fault = before.no_fault;
      readings_equal = λ p. plain_words_are_skipped _ c.args.text.now c.loop-found.scanner.from
          c.next_word.new.self.from c.args.to c.in-Some.found.word before.texts_equal
          c.in-Some.ensures.is_next_word c.skip_plain.new.self.from _
          (side_reading p (side c.loop-found.self))
          (c.in-Some.ensures.plain_if_known (not-false _ c.if-not-found.false))
          c.skip_plain.ensures.onward
          (rw c.in-Some.ensures.text_is at c.skip_plain.ensures.are_plain)
          (before.readings_equal p)
          (ignored_inside _ _ (sym (c.is_open.ensures p) ∙ c.if-is_open.true));
    }

pub loop-found-preserved : goal.loop-found-preserved
loop-found-preserved g c =
    let before = c.loop-found.invariant in
    let text = c.args.text.now in
    let word = c.in-Some.found.word in
    let is_plain_word = subst (λ (t : List ℕ). IsPlainWord (bytes_of t word)) before.texts_equal
    (c.in-Some.ensures.plain_if_known (not-false _ c.if-not-found.false)) in
    record {
      texts_equal = c.in-Some.ensures.text_is ∙ before.texts_equal;
      no_fault = before.no_fault;
      readings_equal = λ p. next_word_is_read _ text c.loop-found.scanner.from
          c.next_word.new.self.from c.args.to word before.texts_equal
          c.in-Some.ensures.is_next_word _ (side_reading p (side c.loop-found.self)) _
          (before.readings_equal p)
          (append_reading_plain text (side_reading p (side c.loop-found.self)) word _
          before.no_fault (sym (c.is_open.ensures p) ∙ c.if-is_open.false) is_plain_word
          c.in_ok-push.ensures.items);
    }

pub returns : goal.returns
returns g c p =
    let invariant_before = c.loop-found.invariant in
    let text = c.args.text.now in
    let no_words_left =
    subst (λ (t : List ℕ). words_between t c.loop-found.scanner.from c.args.to
    ≡ []) invariant_before.texts_equal
    c.in_default.ensures.is_next_word in
    sym (append_reading_is_complete text _ _ _ (invariant_before.readings_equal p) no_words_left)
