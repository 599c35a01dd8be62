use Rattle.std.proofs.Common.{rules, arith, ◌≤◌, length, ◌≡◌, ◌∙◌, ℕ, List, [], Some, not, sym, ap}
use Rattle.std.proofs.Common.{subst}
use Rattle.mm_lex.specs.Pieces.{side_reading}
use Rattle.mm_lex.specs.Between.{side}
use Rattle.mm_spec.specs.declared.TheConstants.{TEXT_LIMIT}
use Rattle.mm_lex.specs.declared.scanner.WordScanner.{WordScanner}
use Rattle.mm_spec.specs.Laws.Readings.{append_reading}
use Rattle.mm_spec.specs.Words.{words_between}
use Rattle.mm_spec.specs.Readings.{Reading, reading}
use Rattle.mm_lex.proofs.PiecesLaw.{append_reading_is_complete, append_reading_some}
use Rattle.mm_lex.proofs.PiecesLaw.{next_word_is_read, plain_words_are_skipped}
use Rattle.mm_lex.proofs.pieces.lex_between.Goals as goal
use Rattle.mm_lex.proofs.pieces.lex_between.Goals.{else-loop-scanner-test}
use Rattle.mm_lex.proofs.pieces.lex_between.Goals.{then-loop-scanner-test+in-None-1}

pub loop-scanner-preserved : goal.loop-scanner-preserved
loop-scanner-preserved g c =
    let before = c.loop-scanner.invariant in
    let text = c.args.text.now in
    let is_read = next_word_is_read _ text c.loop-scanner.scanner.from c.next_word.new.self.from
    c.args.tail_start c.in-Some.found.word before.texts_equal c.in-Some.ensures.is_next_word in
    record {
      texts_equal = c.in-Some.ensures.text_is ∙ before.texts_equal;
      outside_reading =
          λ p. is_read _ (side_reading p (side c.loop-scanner.outside)) _ (before.outside_reading p)
          (c.in_ok-read_word.ensures p);
      inside_reading =
          λ p. is_read _ (side_reading p (side c.loop-scanner.inside)) _ (before.inside_reading p)
          (c.in_ok-read_word-2.ensures p);
    }

pub loop-scanner-preserved-then-ignores_plain-2 : goal.loop-scanner-preserved-then-ignores_plain-2
loop-scanner-preserved-then-ignores_plain-2 g c =
    let before = c.loop-scanner.invariant in
    let text = c.args.text.now in
    let are_skipped = λ (total r : Reading). plain_words_are_skipped _ text
    c.loop-scanner.scanner.from c.next_word.new.self.from c.args.tail_start c.in-Some.found.word
    before.texts_equal c.in-Some.ensures.is_next_word c.skip_plain.new.self.from total r
    (c.in-Some.ensures.plain_if_known c.if-found.true) c.skip_plain.ensures.onward
    (rw c.in-Some.ensures.text_is at c.skip_plain.ensures.are_plain) in
    record {
      texts_equal = c.skip_plain.ensures.text_is ∙ c.in-Some.ensures.text_is ∙ before.texts_equal;
      outside_reading =
          λ p. are_skipped _ (side_reading p (side c.loop-scanner.outside))
          (before.outside_reading p) (sym (c.ignores_plain.ensures p) ∙ c.if-ignores_plain.true);
      inside_reading =
          λ p. are_skipped _ (side_reading p (side c.loop-scanner.inside))
          (before.inside_reading p)
          (sym (c.ignores_plain-then-ignores_plain.ensures p) ∙ c.if-ignores_plain-2.true);
    }

pub new-scanner-requires : goal.new-scanner-requires
new-scanner-requires g c =
    let head_le_tail = c.requires.head_le_tail in
    let tail_le_length = c.requires.tail_le_length in
    omega (arith, head_le_tail, tail_le_length)

pub next_word-requires-clause-to_le_length : goal.next_word-requires-clause-to_le_length
next_word-requires-clause-to_le_length g c =
    subst (λ (t : List ℕ). c.args.tail_start ≤ length t) (sym c.loop-scanner.invariant.texts_equal)
    c.requires.tail_le_length

pub next_word-requires-clause-text_fits_limit : goal.next_word-requires-clause-text_fits_limit
next_word-requires-clause-text_fits_limit g c =
    subst (λ (t : List ℕ). length t ≤ TEXT_LIMIT) (sym c.loop-scanner.invariant.texts_equal)
    c.requires.text_fits_limit

pub returns-clause-are_readings : goal.returns-clause-are_readings
returns-clause-are_readings g c =
    let invariant_before = c.loop-scanner.invariant in
    let text = c.args.text.now in
    let from = c.loop-scanner.scanner.from in
    let to = c.args.tail_start in
    let both_readings : (words_between text from to
    ≡ words_between text c.loop-scanner-test.scanner.from to)
    × ((p : ℕ)
    → reading text (Some p) (words_between text c.args.head_end to)
    ≡ side_reading p (side c.loop-scanner.inside)) =
    elim c.loop-scanner-test.branch [
      | else-loop-scanner-test w ↦ (
        ap (λ (b : WordScanner). words_between text b.from to) (sym w.scanner-is),
        λ p. invariant_before.inside_reading p
            ∙ append_reading_some text (side_reading p (side c.loop-scanner.inside)) _
            (c.is_none.ensures ∙ ap not w.loop-scanner-test.false),
      )
      | then-loop-scanner-test+in-None-1 w ↦
          let none_found : words_between c.loop-scanner.scanner.text.now from to ≡ [] =
          search rules in
          let none_left : words_between c.loop-scanner.scanner.text.now w.next_word.new.self.from to
          ≡ [] = search rules in
          let next_from : words_between text from to ≡ [] =
          subst (λ (t : List ℕ). words_between t from to ≡ []) invariant_before.texts_equal
          none_found in
          let no_words_after : words_between text w.next_word.new.self.from to ≡ [] =
          subst (λ (t : List ℕ). words_between t w.next_word.new.self.from to ≡ [])
          invariant_before.texts_equal
          none_left in (
            next_from ∙ sym no_words_after
                ∙ ap (λ (b : WordScanner). words_between text b.from to) (sym w.scanner-is),
            λ p. append_reading_is_complete text _ _ _ (invariant_before.inside_reading p)
                next_from,
          )
    ] in
    record {
      read_outside =
          λ p. invariant_before.outside_reading p
          ∙ ap (append_reading text (side_reading p (side c.loop-scanner.outside))) both_readings.0
          ∙ sym (c.in_ok-read_rest.ensures p);
      read_inside = both_readings.1;
    }
