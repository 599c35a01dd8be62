use Rattle.std.proofs.Common.{◌≡◌, ◌<◌, ◌≤◌, ◌+◌, ◌∙◌, ℕ, true, List, length, sym, subst, refl}
use Rattle.std.proofs.Common.{true≢false, arith}
use Rattle.std.proofs.lemmas.Bool.{eqb-true}
use Rattle.mm_spec.specs.Words.{white_at}
use Rattle.mm_lex.proofs.BlockLaw.{found_bytes_are_word, one_bit_is_white}
use Rattle.mm_lex.proofs.BlockLaw.{plain_bytes_are_plain_word}
use Rattle.mm_lex.proofs.ScannerLaw.{not_white_up_to, plain_up_to, word_goes_on}
use Rattle.mm_lex.proofs.scanner.WordScanner.word_from.Goals as goal
use Rattle.mm_lex.proofs.scanner.WordScanner.word_from.Goals.{then-loop-stop-test+else-len-scanner-gt64}
use Rattle.mm_lex.proofs.scanner.WordScanner.word_from.Goals.{else-loop-stop-test}

pub loop-stop-init : goal.loop-stop-init
loop-stop-init c =
    let scanner = c.args.self in
    let text = scanner.text.now in
    let start = c.args.start in
    let stop = c.first_one-stop.result in
    let taken = c.requires.is_taken in
    record {
      word = record {
        texts_equal = refl;
        start_lt_from = omega (arith, taken.from_is_next);
        none_begins = λ i start_lt_i i_lt_from. absurd (omega (arith, taken.from_is_next));
        start_le_stop =
            omega (arith, c.first_one-stop.ensures.from_le_index, taken.base_le_start);
        stop_le_64 = c.first_one-stop.ensures.index_le_64;
        no_white = not_white_up_to scanner text start start stop refl taken.base_le_start
            c.first_one-stop.ensures.index_le_64
            (λ i start_le_i i_lt_start _. absurd (omega arith)) c.first_one-stop.ensures.zeros;
        white_at_stop = c.first_one-stop.ensures.one;
      };
      plain_up_to_stop = λ known_plain.
          let stops_equal = eqb-true c.first_one.result stop known_plain in
          plain_up_to scanner text start start stop refl taken.base_le_start
          c.first_one-stop.ensures.index_le_64
          (λ i start_le_i i_lt_start _. absurd (omega arith))
          (λ i start_le_i i_lt_stop. c.first_one.ensures.zeros i start_le_i
          (omega (arith, stops_equal)));
    }

pub loop-stop-preserved-then-is_plain : goal.loop-stop-preserved-then-is_plain
loop-stop-preserved-then-is_plain c =
    let scanner = c.at-scanner.result in
    let text = c.args.self.text.now in
    let next = c.first_one-stop-in-loop-stop in
    let before = c.loop-stop.invariant in
    record {
      word = word_goes_on text c.args.start c.loop-stop.stop next.result c.loop-stop.scanner scanner
          before.word c.loop-stop-test.true c.if-len-scanner-gt64.true c.at-scanner.ensures.text_is
          c.at-scanner.ensures.base_is
          (c.at-scanner.ensures.from_is) next.ensures.index_le_64
          next.ensures.zeros next.ensures.one;
      plain_up_to_stop = λ known_plain.
          let stops_equal =
          eqb-true c.first_one-then-is_plain.result next.result known_plain in
          plain_up_to scanner text c.args.start scanner.base next.result
          c.at-scanner.ensures.text_is (omega arith) next.ensures.index_le_64
          (λ i start_le_i i_lt_base. before.plain_up_to_stop c.if-is_plain.true i start_le_i
          (omega (arith, c.at-scanner.ensures.base_is, c.loop-stop-test.true)))
          (λ i _ i_lt_stop. c.first_one-then-is_plain.ensures.zeros i (omega arith)
          (omega (arith, stops_equal)));
    }

pub loop-stop-preserved : goal.loop-stop-preserved
loop-stop-preserved c =
    let next = c.first_one-stop-in-loop-stop in
    record {
      word = word_goes_on c.args.self.text.now c.args.start c.loop-stop.stop next.result
          c.loop-stop.scanner c.at-scanner.result c.loop-stop.invariant.word c.loop-stop-test.true
          c.if-len-scanner-gt64.true c.at-scanner.ensures.text_is c.at-scanner.ensures.base_is
          c.at-scanner.ensures.from_is next.ensures.index_le_64 next.ensures.zeros
          next.ensures.one;
      plain_up_to_stop = λ known_plain. absurd (true≢false (sym known_plain ∙ c.if-is_plain.false));
    }

pub returns-clause-is_word_from : goal.returns-clause-is_word_from
returns-clause-is_word_from c =
    let text = c.args.self.text.now in
    let start = c.args.start in
    let end = c.min-end.result in
    let scanner = c.loop-stop.scanner in
    let invariant = c.loop-stop.invariant.word in
    let start_is_taken = c.requires.is_taken in
    let start_le_end : start ≤ end =
    omega (arith, invariant.start_le_stop, start_is_taken.start_lt_length, c.min-end.ensures) in
    let end_le_length : end ≤ length text = omega (arith, c.min-end.ensures) in
    let white_after : end < length text → white_at text end ≡ true = λ end_lt_length.
    let stop_lt_64 : c.loop-stop.stop < 64 = elim c.loop-stop-test.branch [
      | then-loop-stop-test+else-len-scanner-gt64 w ↦ absurd
          (omega (
            arith,
            end_lt_length,
            c.min-end.ensures,
            w.loop-stop-test.true,
            w.if-len-scanner-gt64.false,
          ))
      | else-loop-stop-test w ↦ omega
          (arith, invariant.stop_le_64, w.loop-stop-test.false)
    ] in
    let place_is_end : scanner.base + c.loop-stop.stop ≡ end =
    omega (arith, end_lt_length, c.min-end.ensures) in
    let white_at_place =
    (one_bit_is_white scanner.text.now scanner.base scanner.white scanner.white_is c.loop-stop.stop
    stop_lt_64
    (invariant.white_at_stop stop_lt_64)).1 in
    subst (λ (i : ℕ). white_at text i ≡ true) place_is_end
    (subst (λ (t : List ℕ). white_at t (scanner.base + c.loop-stop.stop) ≡ true)
    invariant.texts_equal white_at_place) in
    record {
      start_is = refl;
      is_word =
          found_bytes_are_word text start end start_is_taken.begins start_is_taken.start_lt_length
          start_le_end end_le_length
          (λ i start_le_i i_lt_end. invariant.no_white i start_le_i
          (omega (arith, i_lt_end, c.min-end.ensures))
          (omega (arith, i_lt_end, end_le_length)))
          white_after;
      is_plain =
          λ known_plain. plain_bytes_are_plain_word text start end start_le_end end_le_length
          (λ i start_le_i i_lt_end. c.loop-stop.invariant.plain_up_to_stop known_plain i start_le_i
          (omega (arith, i_lt_end, c.min-end.ensures))
          (omega (arith, i_lt_end, end_le_length)));
    }
