-- The tokens of a text lie in it, rise, and are few; a text that is too long has none, and its
-- lexical fault.
use Rattle.std.proofs.lemmas.Grind.{common_steps}
use Rattle.std.proofs.Common.{◌≡◌, ℕ, ◌-◌, ◌^◌, ◌<◌, ◌≤◌, ◌==◌, ◌&&◌, Bool, true, false, List, []}
use Rattle.std.proofs.Common.{◌∷◌, length, map, drop, get_or, slice_index, codes, Option, None}
use Rattle.std.proofs.Common.{Some, is_some, inl, inr, refl, arith}
use Rattle.std.proofs.lemmas.Bool.Decides.{nat_tests}
use Rattle.std.proofs.lemmas.Bool.{cases_lt, or_cases}
use Rattle.std.proofs.lemmas.List.{length-map, length-drop, length-take-le}
use Rattle.std.proofs.lemmas.List.FromFn.{length-range_with_len}
use Rattle.std.proofs.lemmas.List.Elements.{All-nil, All-cons, All-head, All-tail}
use Rattle.std.proofs.lemmas.List.Sums.{length-filter, count_by-le-length}
use Rattle.std.proofs.lemmas.List.Kept.{AllPairs-cons}
use Rattle.std.specs.List.{All, AllPairs, filter, list_any, range_with_len}
use Rattle.mm_spec.specs.declared.Word.{Word}
use Rattle.mm_spec.specs.declared.Role.TheVariants.{Token, Opening, Closing, Comment, Faulty}
use Rattle.mm_spec.specs.Limits.{text_limit}
use Rattle.mm_spec.specs.Roles.{role_of, is_token, is_keyword, is_dollar_and}
use Rattle.mm_spec.specs.Text.{has_dollar}
use Rattle.mm_spec.specs.Words.{begins_word, word_at, words_between, words_of}
use Rattle.mm_spec.specs.Laws.Words.{IsWord}
use Rattle.mm_spec.specs.Readings.{reading, bytes_of}
use Rattle.mm_spec.specs.Lexed.{tokens_of, lexical_fault}
use Rattle.mm_spec.proofs.WordsLaw.{words_of_are_words}
use Rattle.mm_spec.proofs.ReadingsLaw.{reading_opening, reading_closing, reading_comment}
use Rattle.mm_spec.proofs.ReadingsLaw.{reading_faulty, reading_end, reading_of_token, read_as_token}
use Rattle.mm_spec.proofs.LexedLaw.{tokens_of_long, lexical_fault_long, tokens_of_read}
use Rattle.mm_spec.proofs.ListLaw.{pairs_head, pairs_tail}
use Rattle.mm_outline.specs.Parts.{AreWithin}
use Rattle.mm_outline.specs.Tokens.{AreTokens}

-- a property of tokens among words: it holds of no tokens, and of one word more in front, whether
-- that is a token or not
module _ (text : List ℕ) (Q : List Word → List Word → Type 0)
    (holds_of_none : (ws : List Word) → Q ws [])
    (holds_if_taken : (w : Word) (ws ts : List Word) → is_token (bytes_of text w) ≡ true → Q ws ts
    → Q (w ∷ ws) (w ∷ ts))
    (holds_if_skipped : (w : Word) (ws ts : List Word) → Q ws ts → Q (w ∷ ws) ts) where
  kept_by_reading : (c : Option ℕ) (ws : List Word) → Q ws (reading text c ws).tokens
  kept_by_reading c [] = rw reading_end (holds_of_none [])
  kept_by_reading c (w ∷ ws) =
      (elim (role_of (is_some c) (bytes_of text w)) as (λ r.
      role_of (is_some c) (bytes_of text w) ≡ r → Q (w ∷ ws) (reading text c (w ∷ ws)).tokens) [
        | Token ↦ λ is. rw (reading_of_token text c w ws is) (holds_if_taken w ws _
            (read_as_token (is_some c) (bytes_of text w) is) (kept_by_reading c ws))
        | Opening ↦ λ is. rw (reading_opening text c w ws is)
            (holds_if_skipped w ws _ (kept_by_reading (Some w.start) ws))
        | Closing ↦ λ is. rw (reading_closing text c w ws is)
            (holds_if_skipped w ws _ (kept_by_reading None ws))
        | Comment ↦ λ is. rw (reading_comment text c w ws is)
            (holds_if_skipped w ws _ (kept_by_reading c ws))
        | Faulty ↦ λ is. rw (reading_faulty text c w ws is) (holds_of_none (w ∷ ws))
      ]) refl

-- the tokens are some of the words, in their order
all_words_all_tokens : (P : Word → Type 0) (text : List ℕ) (c : Option ℕ) (ws : List Word)
    → All P ws
    → All P (reading text c ws).tokens
all_words_all_tokens P text c ws =
    kept_by_reading text (λ vs ts. All P vs → All P ts) (λ vs all_words. All-nil P)
    (λ w vs ts is later_kept all_words. All-cons P w ts (All-head P w vs all_words)
    (later_kept (All-tail P w vs all_words)))
    (λ w vs ts later_kept all_words. later_kept (All-tail P w vs all_words)) c ws

abbrev Later : Word → Word → Type 0
Later v w = v.end ≤ w.start

-- with it, that the tokens are after whatever the words are after
rising_words_rising_tokens : (text : List ℕ) (c : Option ℕ) (ws : List Word) → AllPairs Later ws
    → AllPairs Later (reading text c ws).tokens
rising_words_rising_tokens text c ws words_rise =
    (kept_by_reading text
    (λ vs ts. AllPairs Later vs
    → AllPairs Later ts × ((u : Word) → All (Later u) vs → All (Later u) ts))
    (λ vs rise. (λ i j d i_lt_j j_lt_length. absurd (omega arith), λ u later. All-nil (Later u)))
    (λ w vs ts is implied rise.
    let kept = implied (pairs_tail Later w vs rise) in
    let heads = kept.1 w (pairs_head Later w vs rise) in (
      AllPairs-cons Later w ts heads kept.0,
      λ u later. All-cons (Later u) w ts (All-head (Later u) w vs later)
          (kept.1 u (All-tail (Later u) w vs later)),
    ))
    (λ w vs ts implied rise. let kept = implied (pairs_tail Later w vs rise) in
    (kept.0, λ u later. kept.1 u (All-tail (Later u) w vs later))) c ws words_rise).0

tokens_le_words_read : (text : List ℕ) (c : Option ℕ) (ws : List Word)
    → length (reading text c ws).tokens ≤ length ws
tokens_le_words_read text c ws =
    kept_by_reading text (λ vs ts. length ts ≤ length vs) (λ vs. omega arith)
    (λ w vs ts is later_le. omega arith) (λ w vs ts later_le. omega arith) c ws

filtered_le_length : {X : Type 0} (p : X → Bool) (xs : List X) → length (filter p xs) ≤ length xs
filtered_le_length p xs = grind (arith, common_steps, length-filter, count_by-le-length)

-- a text has no more words than bytes
words_le_bytes_of_text : (text : List ℕ) → length (words_of text) ≤ length text
unfolding words_between
words_le_bytes_of_text text =
    let places = range_with_len 0 (length text - 0) in
    let mapped_length_is : length (map (word_at text) (filter (begins_word text) places))
    ≡ length (filter (begins_word text) places) = length-map (filter (begins_word text) places)
    (word_at text) in
    let filtered_le = filtered_le_length (begins_word text) places in
    let place_count_is : length places ≡ length text - 0 =
    length-range_with_len 0 (length text - 0) in
    omega (arith, mapped_length_is, filtered_le, place_count_is)

-- what holds of the tokens of all texts, by those of the texts that are short
holds_of_tokens_by_limit : (P : List Word → Type 0) (text : List ℕ) → P []
    → P (reading text None (words_of text)).tokens → P (tokens_of text)
holds_of_tokens_by_limit P text holds_of_none holds_of_read =
    grind (arith, common_steps, cases_lt, tokens_of_long, tokens_of_read)

-- each token is a word of the text
pub tokens_are_words : (text : List ℕ) → All (IsWord text) (tokens_of text)
tokens_are_words text =
    holds_of_tokens_by_limit (All (IsWord text)) text (All-nil (IsWord text))
    (all_words_all_tokens (IsWord text) text None (words_of text) (words_of_are_words text).each)

-- each token ends before the next begins
pub tokens_rise : (text : List ℕ) → AllPairs (λ v w. v.end ≤ w.start) (tokens_of text)
tokens_rise text =
    holds_of_tokens_by_limit (AllPairs Later) text
    (λ i j d i_lt_j j_lt_length. absurd (omega arith))
    (rising_words_rising_tokens text None (words_of text) (words_of_are_words text).rising)

-- the tokens stand in the text
pub tokens_are_in_text : (text : List ℕ) → AreWithin text (tokens_of text)
tokens_are_in_text text = grind (arith, common_steps, length, tokens_of, tokens_are_words)

-- ---- a token with a `$` begins with it

middle_of_three : (a b c : Bool) → (a && b && c) ≡ true → b ≡ true
middle_of_three a b c h1 = grind (arith, common_steps)

dollar_word_begins_with_dollar : (b : ℕ) (w : List ℕ) → is_dollar_and b w ≡ true
    → (slice_index w 0 == 0x24) ≡ true
unfolding is_dollar_and
dollar_word_begins_with_dollar b w is_dollar_word =
    middle_of_three (length w == 2) (slice_index w 0 == 0x24) (slice_index w 1 == b) is_dollar_word

some_dollar_word_begins_with_dollar : (w bs : List ℕ) → list_any (λ b. is_dollar_and b w) bs ≡ true
    → (slice_index w 0 == 0x24) ≡ true
some_dollar_word_begins_with_dollar w [] some_dollar_word = absurd (cc)
some_dollar_word_begins_with_dollar w (b ∷ bs) some_dollar_word =
    elim (or_cases (is_dollar_and b w) (list_any (λ b. is_dollar_and b w) bs) some_dollar_word) [
      | inl here ↦ dollar_word_begins_with_dollar b w here
      | inr later ↦ some_dollar_word_begins_with_dollar w bs later
    ]

keyword_begins_with_dollar : (w : List ℕ) → is_keyword w ≡ true → (slice_index w 0 == 0x24) ≡ true
unfolding is_keyword
keyword_begins_with_dollar w is_keyword_w =
    some_dollar_word_begins_with_dollar w (codes "cvfedap=.{}[]") is_keyword_w

no_dollar_at_beginning : (w : List ℕ) → 0 < length w → has_dollar w ≡ false
    → (slice_index w 0 == 0x24) ≡ false
no_dollar_at_beginning w h1 h2 = grind (arith, common_steps)

first_byte_tells_dollar : (w : List ℕ) → 0 < length w → is_token w ≡ true
    → has_dollar w ≡ (slice_index w 0 == 0x24)
unfolding is_token
first_byte_tells_dollar w w_is_nonempty is_token_w =
    grind (arith, nat_tests, no_dollar_at_beginning w, keyword_begins_with_dollar w)

-- each token that is read is one
read_tokens_are_tokens : (text : List ℕ) (c : Option ℕ) (ws : List Word)
    → All (λ w. is_token (bytes_of text w) ≡ true) (reading text c ws).tokens
read_tokens_are_tokens text c ws =
    let P : Word → Type 0 = λ w. is_token (bytes_of text w) ≡ true in
    kept_by_reading text (λ vs ts. All P ts) (λ vs. All-nil P) (λ w vs ts is. All-cons P w ts is)
    (λ w vs ts later. later) c ws

-- the first byte of each token tells whether it has a `$`
pub tokens_are_told_by_first_byte : (text : List ℕ) → AreTokens text (tokens_of text)
tokens_are_told_by_first_byte text = λ i d i_lt_count.
    let is_word = tokens_are_words text i d i_lt_count in
    let word_is_nonempty = is_word.nonempty in
    let word_in_text = is_word.within in
    let w = get_or (tokens_of text) i d in
    let dropped_length = length-drop w.start text in
    let word_length_is : length (bytes_of text w) ≡ w.end - w.start =
    length-take-le (w.end - w.start) (drop w.start text)
    (omega (arith, dropped_length, word_in_text)) in
    let word_length_positive : 0 < length (bytes_of text w) =
    omega (arith, word_is_nonempty, word_length_is) in (
      omega (arith, word_is_nonempty),
      word_in_text,
      (
        word_length_positive,
        first_byte_tells_dollar (bytes_of text w) word_length_positive
            (holds_of_tokens_by_limit (All (λ w. is_token (bytes_of text w) ≡ true)) text
            (All-nil (λ w. is_token (bytes_of text w) ≡ true))
            (read_tokens_are_tokens text None (words_of text)) i d i_lt_count),
      ),
    )

-- there are no more tokens than bytes, and fewer than the limit
pub tokens_le_bytes_of_text : (text : List ℕ) → length (tokens_of text) ≤ length text
tokens_le_bytes_of_text text =
    holds_of_tokens_by_limit (λ ts. length ts ≤ length text) text (omega arith)
    (let tokens_le_words = tokens_le_words_read text None (words_of text) in
    let words_le_bytes = words_le_bytes_of_text text in
    omega (arith, tokens_le_words, words_le_bytes))

pub tokens_lt_2_31 : (text : List ℕ) → length (tokens_of text) < 2 ^ 31
tokens_lt_2_31 text = grind (arith, common_steps, cases_lt, tokens_of_long, tokens_le_bytes_of_text)

-- a text without a lexical fault is short
pub faultless_text_fits_limit : (text : List ℕ) → lexical_fault text ≡ None
    → length text ≤ text_limit
faultless_text_fits_limit text no_lexical_fault =
    grind (arith, common_steps, cases_lt, lexical_fault_long)
