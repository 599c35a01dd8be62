-- What a scanner says of the bytes and words of its block, up to the next bit of a mask.
use Rattle.std.proofs.Common.{◌≡◌, ◌<◌, ◌≤◌, ◌+◌, ◌-◌, ℕ, true, false, List, [], length, arith}
use Rattle.std.specs.Int.{bit_at}
use Rattle.mm_spec.specs.Words.{begins_word, white_at, words_between}
use Rattle.mm_lex.specs.Plain.{plain_at}
use Rattle.mm_lex.specs.declared.scanner.WordScanner.{WordScanner}
use Rattle.mm_lex.proofs.BlockLaw.{holds_up_to_next_bit, no_word_begins_inside, no_words_between}
use Rattle.mm_lex.proofs.BlockLaw.{zero_bit_is_not_white}

-- If no word begins from `from` on before the scanner's place, and none in the first bits of its
-- block, then no word begins up to there.
module _ (s : WordScanner) (text : List ℕ) (from : ℕ) (texts_equal : s.text.now ≡ text)
    (none_before : (i : ℕ) → from ≤ i → i < s.from → i < length text → begins_word text i ≡ false)
    (found : ℕ) (found_le_64 : found ≤ 64)
    (no_start : (i : ℕ) → i < found → bit_at s.starts i ≡ 0) where
  pub none_begins_up_to : (i : ℕ) → from ≤ i → i < s.base + found → i < length text
      → begins_word text i ≡ false
  none_begins_up_to =
      holds_up_to_next_bit (λ t k. begins_word t k ≡ false) s.text.now text s.starts from s.from
      s.base found texts_equal s.base_le_from found_le_64 none_before
      (λ k _ k_lt_found. no_start k k_lt_found) s.begins_none

  pub no_words_up_to : (to : ℕ) → to ≤ length text → from ≤ s.base + found → to ≤ s.base + found
      → words_between text from to ≡ []
  no_words_up_to to to_le_length from_le_end to_le_end =
      no_words_between text from (s.base + found) to from_le_end to_le_end
      (λ i from_le_i i_lt_end i_lt_to. none_begins_up_to i from_le_i i_lt_end (omega arith))

-- What holds of the bytes from `start` on up to `at`, a place of the block, holds up to the next
-- bit that is set.
module _ (s : WordScanner) (text : List ℕ) (start at found : ℕ) (texts_equal : s.text.now ≡ text)
    (base_le_at : s.base ≤ at) (found_le_64 : found ≤ 64) where
  pub not_white_up_to : ((i : ℕ) → start ≤ i → i < at → i < length text → white_at text i ≡ false)
      → ((i : ℕ) → at - s.base ≤ i → i < found → bit_at s.white i ≡ 0)
      → (i : ℕ) → start ≤ i → i < s.base + found → i < length text → white_at text i ≡ false
  not_white_up_to holds_before no_bit =
      holds_up_to_next_bit (λ t i. white_at t i ≡ false) s.text.now text s.white start at s.base
      found texts_equal base_le_at found_le_64 holds_before no_bit
      (λ i i_lt_64 in_text _. zero_bit_is_not_white s.text.now s.base s.white s.white_is i i_lt_64
      in_text)

  pub plain_up_to : ((i : ℕ) → start ≤ i → i < at → i < length text → plain_at text i ≡ true)
      → ((i : ℕ) → at - s.base ≤ i → i < found → bit_at s.stops i ≡ 0)
      → (i : ℕ) → start ≤ i → i < s.base + found → i < length text → plain_at text i ≡ true
  plain_up_to holds_before no_bit =
      holds_up_to_next_bit (λ t i. plain_at t i ≡ true) s.text.now text s.stops start at s.base
      found texts_equal base_le_at found_le_64 holds_before no_bit
      (λ i i_lt_64 in_text _. s.others_are_plain i i_lt_64 in_text)

  pub unstopped_up_to : ((i : ℕ) → start ≤ i → i < at → i < length text → white_at text i ≡ false)
      → ((i : ℕ) → at - s.base ≤ i → i < found → bit_at s.stops i ≡ 0)
      → (i : ℕ) → start ≤ i → i < s.base + found → i < length text → white_at text i ≡ false
  unstopped_up_to holds_before no_bit =
      holds_up_to_next_bit (λ t i. white_at t i ≡ false) s.text.now text s.stops start at s.base
      found texts_equal base_le_at found_le_64 holds_before no_bit
      (λ i i_lt_64 in_text _. s.others_not_white i i_lt_64 in_text)

-- the word that begins at `start` goes on up to bit `stop` of the block; in it no word begins
pub record IsWordUpTo (text : List ℕ) (start : ℕ) (s : WordScanner) (stop : ℕ) : Type 0 where
  pub texts_equal : s.text.now ≡ text
  pub start_lt_from : start < s.from
  pub none_begins : (i : ℕ) → start < i → i < s.from → begins_word text i ≡ false
  pub start_le_stop : start ≤ s.base + stop
  pub stop_le_64 : stop ≤ 64
  pub no_white : (i : ℕ) → start ≤ i → i < s.base + stop → i < length text
      → white_at text i ≡ false
  pub white_at_stop : stop < 64 → bit_at s.white stop ≡ 1

-- it goes on in the next block, of the scanner t
pub word_goes_on : (text : List ℕ) (start stop next : ℕ) (s t : WordScanner)
    → IsWordUpTo text start s stop → stop ≡ 64 → 64 < length text - s.base → t.text.now ≡ text
    → t.base ≡ s.base + 64 → t.from ≡ s.base + 64 → next ≤ 64
    → ((i : ℕ) → 0 ≤ i → i < next → bit_at t.white i ≡ 0) → (next < 64 → bit_at t.white next ≡ 1)
    → IsWordUpTo text start t next
word_goes_on text start stop next s t before stop_is more_left text_is base_is from_is next_le_64
    zeros one =
    let start_lt_from_before = before.start_lt_from in
    let start_le_stop_before = before.start_le_stop in
    let from_le_end = s.from_le_block_end in
    record {
      texts_equal = text_is;
      start_lt_from = omega arith;
      none_begins = no_word_begins_inside text start t.from
          (λ i start_le_i i_lt_from. before.no_white i start_le_i (omega arith) (omega arith));
      start_le_stop = omega arith;
      stop_le_64 = next_le_64;
      no_white = not_white_up_to t text start t.base next text_is (omega arith) next_le_64
          (λ i start_le_i i_lt_base. before.no_white i start_le_i (omega arith))
          (λ i _ i_lt_next. zeros i (omega arith) i_lt_next);
      white_at_stop = one;
    }
