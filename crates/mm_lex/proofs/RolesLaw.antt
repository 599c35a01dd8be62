-- What a word is.
use Rattle.std.proofs.Common.{◌≡◌, ℕ, zero, suc, ◌+◌, ◌-◌, ◌<◌, ◌≤◌, ◌||◌, ◌&&◌, ◌==◌, Bool, true}
use Rattle.std.proofs.Common.{false, List, [], ◌∷◌, length, drop, get_or, refl, not, subst, ◌⊎◌}
use Rattle.std.proofs.Common.{codes, arith, rules}
use Rattle.std.specs.List.{list_all}
use Rattle.std.proofs.lemmas.Bool.{or_parts, and_parts}
use Rattle.std.proofs.lemmas.Grind.{common_steps}
use Rattle.mm_spec.specs.Roles.{has_comment_mark, is_comment_mark, is_dollar_and, is_token}
use Rattle.mm_spec.specs.Roles.{is_comment_word, role_of, is_clean, is_keyword}
use Rattle.mm_spec.specs.Bytes.{is_printable}
use Rattle.mm_spec.specs.Text.{has_dollar}
use Rattle.mm_spec.specs.declared.Role.TheVariants.{Token, Comment}
use Rattle.mm_lex.specs.Plain.{IsPlainWord}

add_one_suc : (i : ℕ) → suc (i + 1) ≡ suc i + 1
add_one_suc i = omega arith

pub comment_mark_here_or_later : (word : List ℕ) (i : ℕ) → i + 1 < length word
    → has_comment_mark (drop i word)
    ≡ (is_comment_mark (get_or word i 0) (get_or word (i + 1) 0)
    || has_comment_mark (drop (i + 1) word))
unfolding has_comment_mark
comment_mark_here_or_later [] i next_lt_length = absurd (omega arith)
comment_mark_here_or_later (a ∷ []) i next_lt_length = absurd (omega arith)
comment_mark_here_or_later (a ∷ b ∷ word) zero next_lt_length = refl
comment_mark_here_or_later (a ∷ b ∷ word) (suc i) next_lt_length =
    rw (← add_one_suc i) (comment_mark_here_or_later (b ∷ word) i (omega arith))

pub no_mark_at_end : (word : List ℕ) (i : ℕ) → length word ≤ i + 1
    → has_comment_mark (drop i word) ≡ false
unfolding has_comment_mark
no_mark_at_end [] zero length_le_next = refl
no_mark_at_end [] (suc i) length_le_next = refl
no_mark_at_end (a ∷ []) zero length_le_next = refl
no_mark_at_end (a ∷ b ∷ word) zero length_le_next = absurd (omega arith)
no_mark_at_end (a ∷ word) (suc i) length_le_next = no_mark_at_end word i (omega arith)

-- a word has a comment mark if its bytes at i - 1 and i are one
pub mark_at_pair_is_found : (word : List ℕ) (i : ℕ) → 1 ≤ i → i < length word
    → is_comment_mark (get_or word (i - 1) 0) (get_or word i 0) ≡ true
    → has_comment_mark (drop (i - 1) word) ≡ true
mark_at_pair_is_found word i one_le_i i_lt_length is_mark =
    search (rules, arith, comment_mark_here_or_later)

pub no_mark_at_pair_goes_on : (word : List ℕ) (i : ℕ) → 1 ≤ i → i < length word
    → is_comment_mark (get_or word (i - 1) 0) (get_or word i 0) ≡ false
    → has_comment_mark (drop (i - 1) word) ≡ has_comment_mark (drop (i + 1 - 1) word)
no_mark_at_pair_goes_on word i one_le_i i_lt_length is_no_mark =
    search (rules, arith, comment_mark_here_or_later)

-- ---- plain words

pub no_dollar_no_comment_mark : (word : List ℕ) → has_dollar word ≡ false
    → has_comment_mark word ≡ false
unfolding has_comment_mark is_comment_mark
no_dollar_no_comment_mark [] no_dollar = refl
no_dollar_no_comment_mark (a ∷ []) no_dollar = refl
no_dollar_no_comment_mark (a ∷ b ∷ word) no_dollar =
    rw (or_parts (a == 0x24) (has_dollar (b ∷ word)) no_dollar).0
    (no_dollar_no_comment_mark (b ∷ word)
    (or_parts (a == 0x24) (has_dollar (b ∷ word)) no_dollar).1)

no_dollar_is_no_keyword : (b : ℕ) (word : List ℕ) → has_dollar word ≡ false
    → is_dollar_and b word ≡ false
unfolding is_dollar_and
no_dollar_is_no_keyword b [] no_dollar = refl
no_dollar_is_no_keyword b (a ∷ word) no_dollar = grind arith

pub plain_word_is_token : (word : List ℕ) → IsPlainWord word → role_of false word ≡ Token
unfolding role_of is_token
plain_word_is_token word is_plain_word = rw (is_plain_word.clean, is_plain_word.no_dollar) refl

pub plain_word_is_comment : (word : List ℕ) → IsPlainWord word → role_of true word ≡ Comment
unfolding role_of is_comment_word
plain_word_is_comment word is_plain_word =
    search (rules, arith, no_dollar_is_no_keyword, no_dollar_no_comment_mark)

dollar_word_is_clean : (b : ℕ) (word : List ℕ) → is_clean (0x24 ∷ b ∷ []) ≡ true
    → is_dollar_and b word ≡ true
    → is_clean word ≡ true
unfolding is_dollar_and
dollar_word_is_clean b word is_clean_dollar is_dollar_b = grind (arith, common_steps)

clean_keywords : list_all (λ b. is_clean (0x24 ∷ b ∷ [])) (codes "cvfedap=.{}[]") ≡ true
unfolding is_clean is_printable
clean_keywords = refl

one_of_two_is_true : (x y : Bool) → (x || y) ≡ true → (x ≡ true) ⊎ (y ≡ true)
one_of_two_is_true x y h1 = grind (arith, common_steps)

keyword_is_clean_word : (word : List ℕ) → is_keyword word ≡ true → is_clean word ≡ true
unfolding is_keyword
keyword_is_clean_word word is_keyword_w =
    search (rules, arith, clean_keywords, and_parts, one_of_two_is_true, dollar_word_is_clean)

-- a keyword needs no further test
token_test_is : (word : List ℕ)
    → (is_keyword word || (is_clean word && not (has_dollar word))) ≡ is_token word
unfolding is_token
token_test_is word = search (rules, arith, keyword_is_clean_word)

pub keyword_is_token : (word : List ℕ) → is_keyword word ≡ true → true ≡ is_token word
keyword_is_token word is_keyword_w =
    subst (λ b. (b || (is_clean word && not (has_dollar word))) ≡ is_token word) is_keyword_w
    (token_test_is word)

pub clean_word_is_token : (word : List ℕ) → is_keyword word ≡ false → is_clean word ≡ true
    → not (has_dollar word) ≡ is_token word
clean_word_is_token word is_no_keyword is_clean_w =
    subst (λ b. (b && not (has_dollar word)) ≡ is_token word) is_clean_w
    (subst (λ b. (b || (is_clean word && not (has_dollar word))) ≡ is_token word) is_no_keyword
    (token_test_is word))

pub unclean_word_is_no_token : (word : List ℕ) → is_keyword word ≡ false → is_clean word ≡ false
    → false ≡ is_token word
unclean_word_is_no_token word is_no_keyword is_not_clean =
    subst (λ b. (b && not (has_dollar word)) ≡ is_token word) is_not_clean
    (subst (λ b. (b || (is_clean word && not (has_dollar word))) ≡ is_token word) is_no_keyword
    (token_test_is word))
