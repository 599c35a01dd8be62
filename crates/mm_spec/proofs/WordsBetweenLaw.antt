-- The words of a text from a place on, one after another.
use Rattle.std.proofs.Common.{rules, ◌≡◌, ℕ, zero, suc, ◌+◌, ◌-◌, ◌<◌, ◌≤◌, Bool, true, false, not}
use Rattle.std.proofs.Common.{List, [], ◌∷◌, length, drop, get_or, refl, arith, length-drop}
use Rattle.std.proofs.Common.{get_or-drop, ne_eqb}
use Rattle.std.proofs.lemmas.Bool.Decides.{nat_tests}
use Rattle.std.proofs.lemmas.Grind.{common_steps}
use Rattle.std.proofs.lemmas.List.Sums.{prefix_len_passes, prefix_len_stops, prefix_len-le-length}
use Rattle.std.proofs.lemmas.List.Sums.{prefix_len-drop_yes}
use Rattle.std.proofs.lemmas.Bool.{not-false, not-true}
use Rattle.std.proofs.Math.Bool.{and-false, or-true}
use Rattle.mm_spec.specs.Bytes.{is_white}
use Rattle.mm_spec.specs.Words.{white_at, begins_word, word_at, words_between}
use Rattle.mm_spec.specs.Laws.Words.{IsWord}

-- no word goes on from before the place to after it
abbrev pub IsBoundary : List ℕ → ℕ → Type 0
IsBoundary text at =
    (i : ℕ) → i + 1 ≡ at → at < length text → white_at text at ≡ false → white_at text i ≡ true

-- where no word begins, the words are those from the next place on
pub words_between_skip : (text : List ℕ) (i to : ℕ) → i < to → begins_word text i ≡ false
    → words_between text i to ≡ words_between text (i + 1) to
unfolding words_between
words_between_skip text i to i_lt_to begins_not = search (rules, arith)

-- where one begins, it is the first
pub words_between_take : (text : List ℕ) (i to : ℕ) → i < to → begins_word text i ≡ true
    → words_between text i to ≡ word_at text i ∷ words_between text (i + 1) to
unfolding words_between
words_between_take text i to i_lt_to begins = search (rules, arith)

-- up to a place that was passed there are none
pub words_between_none : (text : List ℕ) (i to : ℕ) → to ≤ i → words_between text i to ≡ []
unfolding words_between
words_between_none text i to to_le_i = search (rules, arith)

-- where none begins at any place before e, the words are those from e on
pub words_between_skips : (text : List ℕ) (n from e to : ℕ) → from + n ≡ e → e ≤ to
    → ((j : ℕ) → from ≤ j → j < e → begins_word text j ≡ false)
    → words_between text from to ≡ words_between text e to
words_between_skips text zero from e to from_plus_n e_le_to none_begins = grind (arith, nat_tests)
words_between_skips text (suc n) from e to from_plus_n e_le_to none_begins =
    let later = words_between_skips text n (from + 1) e to (omega arith) e_le_to (λ j from_le_j
    j_lt_e. none_begins j (omega arith) j_lt_e) in
    grind (arith, common_steps, words_between_skip)

-- a byte that is not white begins a word behind a white one, and at the beginning
pub boundary_begins_word : (text : List ℕ) (i : ℕ) → i < length text → white_at text i ≡ false
    → IsBoundary text i → begins_word text i ≡ true
unfolding begins_word
boundary_begins_word text zero i_lt_length not_white is_boundary = rw not_white refl
boundary_begins_word text (suc i) i_lt_length not_white is_boundary =
    search (rules, arith, or-true)

-- behind a byte that is not white no word begins
pub none_begins_after_not_white : (text : List ℕ) (i : ℕ) → white_at text i ≡ false
    → begins_word text (i + 1) ≡ false
unfolding begins_word
none_begins_after_not_white text i not_white = search (rules, arith, ne_eqb, and-false)

-- the bytes of the word at a place aren't white
pub word_at_not_white : (text : List ℕ) (i j : ℕ) → i ≤ j → j < (word_at text i).end
    → white_at text j ≡ false
unfolding word_at white_at
word_at_not_white text i j i_le_j j_lt_end =
    let is_not_white : ℕ → Bool = λ b. not (is_white b) in
    let passes : not (is_white (get_or (drop i text) (j - i) 0)) ≡ true =
    search (rules, arith, prefix_len_passes) in
    search (rules, arith, not-true, get_or-drop)

-- the word at a place ends where the text does, or before
pub word_at_ends_in_text : (text : List ℕ) (i : ℕ) → i ≤ length text
    → (word_at text i).end ≤ length text
unfolding word_at
word_at_ends_in_text text i i_le_length =
    omega (arith, prefix_len-le-length (λ b. not (is_white b)) (drop i text), length-drop i text)

-- behind it stands a white byte, if it does not end the text
pub white_after_word_at : (text : List ℕ) (i : ℕ) → (word_at text i).end < length text
    → white_at text (word_at text i).end ≡ true
unfolding word_at white_at
white_after_word_at text i end_lt_length =
    search (rules, arith, prefix_len_stops, length-drop, not-false, get_or-drop)

-- at a byte that is not white it is not empty
pub word_at_nonempty : (text : List ℕ) (i : ℕ) → i < length text → white_at text i ≡ false
    → i < (word_at text i).end
unfolding word_at white_at
word_at_nonempty text i i_lt_length not_white =
    let word_has_length = prefix_len-drop_yes (λ b. not (is_white b)) text i 0 i_lt_length (rw
    not_white refl) in
    omega arith

-- where a word begins, it is one by the definition
pub word_at_is_word : (text : List ℕ) (i : ℕ) → i < length text → white_at text i ≡ false
    → IsBoundary text i → IsWord text (word_at text i)
unfolding word_at
word_at_is_word text i i_lt_length not_white is_boundary =
    search (rules, word_at_nonempty, word_at_ends_in_text, word_at_not_white, white_after_word_at)
