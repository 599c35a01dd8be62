-- The least of faults, symbol by symbol.
use Rattle.std.proofs.Common.{◌≡◌, ◌≢◌, ℕ, ◌+◌, ◌-◌, ◌<◌, ◌≤◌, false, ◌||◌, List, [], ◌∷◌, ◌++◌}
use Rattle.std.proofs.Common.{length, Option, None, Some, refl, ap, ap₂, sym, ◌∙◌, arith}
use Rattle.std.proofs.Common.{append-nil, append_assoc, bytes_eq, if◌then◌else◌, is_some}
use Rattle.std.proofs.Common.{drop-cons, add-one, length-drop, nat_eq}
use Rattle.std.proofs.lemmas.List.{length-take-le, length-map, map-append}
use Rattle.std.proofs.lemmas.List.Folds.{list_any-append}
use Rattle.std.proofs.Math.Bool.{or-false}
use Rattle.std.proofs.lemmas.Slice.Eq.{bytes_eq-Decides}
use Rattle.std.proofs.lemmas.Bool.Decides.{nat_tests}
use Rattle.std.proofs.lemmas.Grind.{common_steps}
use Rattle.mm_spec.specs.Text.{Bytes, Token, fault, is_in, words}
use Rattle.mm_spec.specs.declared.Fault.{Fault}
use Rattle.mm_spec.specs.Scope.{Names}
use Rattle.mm_spec.specs.Lawful.{faults_at, faults_at_each, floating_faults, is_empty, least}
use Rattle.mm_spec.specs.Lawful.{lesser}
use Rattle.mm_spec.specs.declared.Word as spec
use Rattle.mm_outline.specs.Parts.{between, token_at}
use Rattle.mm_outline.proofs.BetweenLaw.{between_with_one_more, nothing_between_place_and_itself}
use Rattle.mm_spec.specs.declared.Code.{Code}
use Rattle.mm_spec.specs.declared.Code.TheVariants.{BadFloating}

-- whether two words are equal doesn't depend on their order
pub bytes_eq_sym : (a b : Bytes) → bytes_eq a b ≡ bytes_eq b a
bytes_eq_sym a b = grind (arith, bytes_eq-Decides)

-- the lesser of two faults, if any
abbrev pub lesser_fault : Option Fault → Option Fault → Option Fault
lesser_fault None g = g
lesser_fault (Some f) g = lesser f g

-- the lesser of three faults doesn't depend on how they are grouped
lesser_fault_assoc : (a b c : Option Fault)
    → lesser_fault (lesser_fault a b) c ≡ lesser_fault a (lesser_fault b c)
lesser_fault_assoc a b c = grind (arith, nat_tests)

-- the least fault of two lists is the lesser of their least faults
least_append : (xs ys : List Fault) → least (xs ++ ys) ≡ lesser_fault (least xs) (least ys)
least_append [] ys = refl
least_append (f ∷ xs) ys =
    grind (arith, least_append xs ys, lesser_fault_assoc (Some f) (least xs) (least ys))

-- the lesser of the least of two lists
pub lesser_of_least_is_least : (a b r : Option Fault) → r ≡ lesser_fault a b
    → (xs ys : List Fault) → a ≡ least xs → b ≡ least ys → r ≡ least (xs ++ ys)
lesser_of_least_is_least a b r r_is_lesser xs ys a_is_least b_is_least =
    r_is_lesser ∙ ap₂ lesser_fault a_is_least b_is_least ∙ sym (least_append xs ys)

-- the words before the next one: those of the tokens, the last one first, then those before them
abbrev pub before_next : List Bytes → List Token → List Bytes
before_next e [] = e
before_next e (t ∷ ts) = before_next (t.word ∷ e) ts

in_before_next : (w : Bytes) (e : List Bytes) (xs : List Token)
    → is_in w (before_next e xs) ≡ (is_in w (words xs) || is_in w e)
in_before_next w e [] = refl
in_before_next w e (x ∷ xs) = grind (arith, in_before_next w (x.word ∷ e) xs)

at_each_push : (codes : List Bytes → Bytes → List Code) (e : List Bytes) (xs : List Token)
    → (t : Token)
    → faults_at_each codes e (xs ++ t ∷ [])
    ≡ faults_at_each codes e xs ++ faults_at t.at (codes (before_next e xs) t.word)
at_each_push codes e [] t = append-nil (faults_at t.at (codes e t.word))
at_each_push codes e (x ∷ xs) t = simp (at_each_push codes (x.word ∷ e) xs t, append_assoc)

module _ (text : List ℕ) (ws : List spec.Word) (from i : ℕ) where
  -- the words before the one at i
  abbrev pub earlier : List Bytes
  earlier = before_next [] (between text ws from i)

  -- the words before the one at i, in both forms
  pub in_between_is_in_earlier : (w : Bytes)
      → is_in w (words (between text ws from i)) ≡ is_in w earlier
  in_between_is_in_earlier w =
      sym (in_before_next w [] (between text ws from i)
      ∙ or-false (is_in w (words (between text ws from i))))

  abbrev pub next_word : Bytes
  next_word = (token_at text ws i).word

  -- the faults of the words with one symbol more are those of the earlier words, followed by those
  -- of the symbol
  pub at_each_between_push : from ≤ i → i < length ws → (codes : List Bytes → Bytes → List Code)
      → faults_at_each codes [] (between text ws from (i + 1))
      ≡ faults_at_each codes [] (between text ws from i)
      ++ faults_at (token_at text ws i).at (codes earlier next_word)
  at_each_between_push from_le_i i_lt_length codes =
      rw (between_with_one_more text ws from i from_le_i i_lt_length, at_each_push) refl

  -- a word is among the words with one more exactly if it is among the earlier ones or is that one
  pub in_between_push : from ≤ i → i < length ws → (w : Bytes)
      → is_in w (words (between text ws from (i + 1)))
      ≡ (is_in w (words (between text ws from i)) || (bytes_eq next_word w || false))
  in_between_push from_le_i i_lt_length w =
      ap (λ ts. is_in w (words ts)) (between_with_one_more text ws from i from_le_i i_lt_length)
      ∙ ap (is_in w) (map-append (λ t. t.word) (between text ws from i) (token_at text ws i ∷ []))
      ∙ list_any-append (bytes_eq w) (words (between text ws from i)) (next_word ∷ [])
      ∙ ap (λ b. is_in w (words (between text ws from i)) || (b || false))
      (bytes_eq_sym w next_word)

  -- the same, with the test in front
  pub among_between_push : from ≤ i → i < length ws → (w : Bytes)
      → (bytes_eq w next_word || is_in w (words (between text ws from i)))
      ≡ is_in w (words (between text ws from (i + 1)))
  among_between_push from_le_i i_lt_length w =
      rw (in_between_push from_le_i i_lt_length w, bytes_eq_sym w next_word) (grind arith)

  -- a map that has the words up to i has those up to i + 1 once the next is added
  pub seen_between_push : from ≤ i → i < length ws → (old new : Bytes → Option ℕ)
      → ((w : Bytes) → new w ≡ (if bytes_eq next_word w then Some 0 else old w))
      → ((w : Bytes) → is_some (old w) ≡ is_in w (words (between text ws from i)))
      → (w : Bytes) → is_some (new w) ≡ is_in w (words (between text ws from (i + 1)))
  seen_between_push from_le_i i_lt_length old new new_adds_word old_is_seen w =
      rw (new_adds_word w, in_between_push from_le_i i_lt_length w, sym (old_is_seen w))
      (grind arith)

-- the tokens from i on begin with the one at i
pub between_first : (text : List ℕ) (ws : List spec.Word) (i j : ℕ) → i < j → j ≤ length ws
    → between text ws i j ≡ token_at text ws i ∷ between text ws (i + 1) j
between_first text ws i j i_lt_j j_le_length = grind (arith, nat_tests, add-one, drop-cons)

-- a `$f` that has not two words between its keyword and its end has a fault at its keyword
pub not_two_is_faulty : (n : Names) (keyword : ℕ) (xs : List Token) → length xs ≢ 2
    → Some (fault keyword BadFloating) ≡ least (floating_faults n keyword xs)
not_two_is_faulty n keyword xs length_ne_2 = grind (arith, common_steps)

-- there are as many tokens between two places as these are apart
pub length_between : (text : List ℕ) (ws : List spec.Word) (i j : ℕ) → i ≤ j → j ≤ length ws
    → length (between text ws i j) ≡ j - i
length_between text ws i j i_le_j j_le_length =
    grind (arith, common_steps, length-map, length-take-le, length-drop)

-- the same for the tokens between a keyword and the end of a statement
pub not_two_between_is_faulty : (n : Names) (keyword : ℕ) (text : List ℕ) (ws : List spec.Word)
    (k j : ℕ)
    → k < j → j ≤ length ws → j - k ≢ 3
    → Some (fault keyword BadFloating)
    ≡ least (floating_faults n keyword (between text ws (k + 1) j))
not_two_between_is_faulty n keyword text ws k j k_lt_j j_le_length width_ne_3 =
    grind (arith, common_steps, not_two_is_faulty, length_between)

-- where the end is three tokens after the keyword, there are two between
pub between_is_two_tokens : (text : List ℕ) (ws : List spec.Word) (k j : ℕ) → j ≤ length ws
    → j - k ≡ 3
    → between text ws (k + 1) j ≡ token_at text ws (k + 1) ∷ token_at text ws (k + 2) ∷ []
between_is_two_tokens text ws k j j_le_length width_is_3 =
    grind (arith, common_steps, between_first, nothing_between_place_and_itself)

-- a list without length is empty
no_length_is_empty : (xs : List Token) → nat_eq (length xs) 0 ≡ is_empty xs
no_length_is_empty xs = grind (arith, common_steps)

-- whether there are no words
pub nothing_between_is_empty : (text : List ℕ) (ws : List spec.Word) (k j : ℕ) → k < j
    → j ≤ length ws
    → nat_eq (j - k - 1) 0 ≡ is_empty (between text ws (k + 1) j)
nothing_between_is_empty text ws k j k_lt_j j_le_length =
    grind (arith, common_steps, length_between, no_length_is_empty)
