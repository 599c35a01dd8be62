use Rattle.std.proofs.Common.{◌≡◌, ◌<◌, ◌≤◌, ◌+◌, ◌∙◌, ℕ, true, false, List, length, sym, subst}
use Rattle.std.proofs.Common.{arith}
use Rattle.std.proofs.lemmas.Nat.Bits.{shr_and_one}
use Rattle.mm_spec.specs.Words.{white_at}
use Rattle.mm_spec.specs.Laws.Words.{IsWord}
use Rattle.mm_lex.specs.Plain.{plain_at}
use Rattle.mm_lex.specs.Beginnings.{IsFirstWordStart, IsPassed, IsWordFrom}
use Rattle.mm_lex.proofs.BlockLaw.{found_bytes_are_word, one_bit_is_white}
use Rattle.mm_lex.proofs.BlockLaw.{plain_bytes_are_plain_word, words_begin_with_found}
use Rattle.mm_lex.proofs.ScannerLaw.{plain_up_to, unstopped_up_to}
use Rattle.mm_lex.proofs.scanner.WordScanner.next_word.Goals as goal
use Rattle.mm_lex.proofs.scanner.WordScanner.next_word.Goals.{Then-self-stop-eq1, After-word_from}

-- ---- a word that is plain and ends in the block

stop_is_white : (c : Then-self-stop-eq1)
    → (c.next_start.new.self.base + c.first_one-stop.result < length c.args.self.now.text.now)
    × (white_at c.args.self.now.text.now (c.next_start.new.self.base + c.first_one-stop.result)
    ≡ true)
stop_is_white c =
    let scanner = c.next_start.new.self in
    let white_there =
    one_bit_is_white scanner.text.now scanner.base scanner.white scanner.white_is
    c.first_one-stop.result
    c.if-stop-lt64.true
    (sym (shr_and_one scanner.white c.first_one-stop.result) ∙ c.if-self-stop-eq1.true) in
    subst (λ (t : List ℕ). (scanner.base + c.first_one-stop.result < length t)
    × (white_at t (scanner.base + c.first_one-stop.result) ≡ true)) c.next_start.ensures.text_is
    white_there

module _ (c : Then-self-stop-eq1) where
  none_white_to_stop : (i : ℕ) → c.in_ok-start.start ≤ i
      → i < c.next_start.new.self.base + c.first_one-stop.result
      → white_at c.args.self.now.text.now i ≡ false
  none_white_to_stop i start_le_i i_lt_end =
      let scanner = c.next_start.new.self in
      unstopped_up_to scanner c.args.self.now.text.now c.in_ok-start.start c.in_ok-start.start
      c.first_one-stop.result c.next_start.ensures.text_is
      c.in_ok-start.ensures.is_taken.base_le_start c.first_one-stop.ensures.index_le_64
      (λ k start_le_k k_lt_start _. absurd (omega arith)) c.first_one-stop.ensures.zeros
      i start_le_i i_lt_end (omega (arith, (stop_is_white c).0))

  plain_to_stop : (i : ℕ) → c.in_ok-start.start ≤ i
      → i < c.next_start.new.self.base + c.first_one-stop.result
      → plain_at c.args.self.now.text.now i ≡ true
  plain_to_stop i start_le_i i_lt_end =
      let scanner = c.next_start.new.self in
      plain_up_to scanner c.args.self.now.text.now c.in_ok-start.start c.in_ok-start.start
      c.first_one-stop.result c.next_start.ensures.text_is
      c.in_ok-start.ensures.is_taken.base_le_start c.first_one-stop.ensures.index_le_64
      (λ k start_le_k k_lt_start _. absurd (omega arith)) c.first_one-stop.ensures.zeros
      i start_le_i i_lt_end (omega (arith, (stop_is_white c).0))

  start_le_stop : c.in_ok-start.start ≤ c.next_start.new.self.base + c.first_one-stop.result
  start_le_stop =
      omega (
        arith,
        c.first_one-stop.ensures.from_le_index,
        c.in_ok-start.ensures.is_taken.base_le_start,
      )

  found_is_word : IsWord c.args.self.now.text.now (record {
    start = c.in_ok-start.start;
    end = c.next_start.new.self.base + c.first_one-stop.result;
  })
  found_is_word =
      let start_facts = c.in_ok-start.ensures in
      found_bytes_are_word c.args.self.now.text.now c.in_ok-start.start
      (c.next_start.new.self.base + c.first_one-stop.result) start_facts.is_first.begins
      (omega (arith, start_facts.is_first.start_lt_to, c.requires.to_le_length))
      start_le_stop
      (omega (arith, (stop_is_white c).0))
      none_white_to_stop (λ _. (stop_is_white c).1)

pub returns-then-self-stop-eq1-clause-is_next_word :
    goal.returns-then-self-stop-eq1-clause-is_next_word
returns-then-self-stop-eq1-clause-is_next_word c =
    let context = (goal.at.returns-then-self-stop-eq1-clause-is_next_word c).Then-self-stop-eq1 in
    let start_facts = c.in_ok-start.ensures in
    words_begin_with_found c.args.self.now.text.now _ c.args.self.now.from
    c.next_start.new.self.from c.args.to
    (found_is_word context) start_facts.is_first (record {
      start_lt_from = omega (arith, start_facts.is_taken.from_is_next);
      none_between =
          λ i start_lt_i i_lt_from. absurd (omega (arith, start_facts.is_taken.from_is_next));
    })

pub returns-then-self-stop-eq1-clause-found_is_word :
    goal.returns-then-self-stop-eq1-clause-found_is_word
returns-then-self-stop-eq1-clause-found_is_word c =
    found_is_word (goal.at.returns-then-self-stop-eq1-clause-found_is_word c).Then-self-stop-eq1

pub returns-then-self-stop-eq1-clause-plain_if_known :
    goal.returns-then-self-stop-eq1-clause-plain_if_known
returns-then-self-stop-eq1-clause-plain_if_known c _ =
    let context = (goal.at.returns-then-self-stop-eq1-clause-plain_if_known c).Then-self-stop-eq1 in
    plain_bytes_are_plain_word c.args.self.now.text.now c.in_ok-start.start
    (c.next_start.new.self.base + c.first_one-stop.result) (start_le_stop context)
    (omega (arith, (stop_is_white context).0)) (plain_to_stop context)

pub returns-then-self-stop-eq1-clause-onward : goal.returns-then-self-stop-eq1-clause-onward
returns-then-self-stop-eq1-clause-onward c =
    omega (
      arith,
      c.in_ok-start.ensures.is_first.from_le_start,
      c.in_ok-start.ensures.is_taken.from_is_next,
    )

-- ---- any other word

module _ (c : After-word_from) where
  found_word_from : IsWordFrom c.args.self.now.text.now c.in_ok-start.start
      c.word_from.result.1.word
      c.word_from.result.1.is_plain
  found_word_from =
      subst (λ (t : List ℕ). IsWordFrom t c.in_ok-start.start c.word_from.result.1.word
      c.word_from.result.1.is_plain) c.next_start.ensures.text_is c.word_from.ensures.is_word_from

  none_passed_to_from : IsPassed c.args.self.now.text.now c.in_ok-start.start
      c.word_from.result.0.from
  none_passed_to_from =
      subst (λ (t : List ℕ). IsPassed t c.in_ok-start.start c.word_from.result.0.from)
      c.next_start.ensures.text_is c.word_from.ensures.onward

pub returns-clause-is_next_word : goal.returns-clause-is_next_word
returns-clause-is_next_word c =
    let context = (goal.at.returns-clause-is_next_word c).After-word_from in
    let text = c.args.self.now.text.now in
    let start_is = sym (found_word_from context).start_is in
    words_begin_with_found text _ c.args.self.now.from c.word_from.result.0.from c.args.to
    (found_word_from context).is_word
    (subst (IsFirstWordStart text c.args.self.now.from c.args.to) start_is
    c.in_ok-start.ensures.is_first)
    (subst (λ (s : ℕ). IsPassed text s c.word_from.result.0.from) start_is
    (none_passed_to_from context))

pub returns-clause-found_is_word : goal.returns-clause-found_is_word
returns-clause-found_is_word c =
    (found_word_from (goal.at.returns-clause-found_is_word c).After-word_from).is_word

pub returns-clause-plain_if_known : goal.returns-clause-plain_if_known
returns-clause-plain_if_known c =
    (found_word_from (goal.at.returns-clause-plain_if_known c).After-word_from).is_plain

pub returns-clause-onward : goal.returns-clause-onward
returns-clause-onward c =
    omega (
      arith,
      c.in_ok-start.ensures.is_first.from_le_start,
      c.word_from.ensures.onward.start_lt_from,
    )
