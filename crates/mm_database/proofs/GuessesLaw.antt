-- Where the guess for a name is found, and what stays when a guess is put somewhere.
use Rattle.std.proofs.lemmas.Option.{same_Some}
use Rattle.std.proofs.lemmas.Bool.{false_from_ne_true, cases_lt, cases_order}
use Rattle.std.proofs.Common.{◌≡◌, ◌≢◌, ◌∙◌, ◌+◌, ◌<◌, ◌≤◌, ◌-◌, ◌∷◌, [], ℕ, zero, suc, List}
use Rattle.std.proofs.Common.{true, false, Some, None, length, slice_get, set, inl, inr, refl, sym}
use Rattle.std.proofs.Common.{ap, arith, length-set, is_some, bytes_eq, subst, ◌++◌, Bool}
use Rattle.std.proofs.Common.{if◌then◌else◌}
use Rattle.std.proofs.lemmas.Grind.{common_steps}
use Rattle.std.proofs.lemmas.Bool.Decides.{nat_tests}
use Rattle.std.proofs.lemmas.Map.Made.{is_some-lookup}
use Rattle.mm_spec.specs.Text.{Bytes, is_in}
use Rattle.mm_spec.specs.Frame.{index_of}
use Rattle.mm_database.specs.declared.name.Name.{Name}
use Rattle.mm_database.specs.Names.{find, names_of, with_name}
use Rattle.mm_database.specs.Guesses.{AreGuessed, IsGuessed, first_place, no_guess, window}
use Rattle.mm_database.proofs.SymbolsLaw.{key_is_name, missing_index_is_length}
use Rattle.mm_database.proofs.SymbolsLaw.{name_at_index_of}
use Rattle.mm_database.proofs.NamesLaw.{with_known_name_is_unchanged}

-- an element that isn't the one that is set
pub other_element : {A : Type 0} (xs : List A) (s p : ℕ) (v : A) → p ≢ s
    → slice_get (set xs s v) p ≡ slice_get xs p
other_element [] s p v p_isnt_s = refl
other_element (x ∷ xs) zero zero v p_isnt_s = absurd (p_isnt_s refl)
other_element (x ∷ xs) zero (suc p) v p_isnt_s = refl
other_element (x ∷ xs) (suc s) zero v p_isnt_s = refl
other_element (x ∷ xs) (suc s) (suc p) v p_isnt_s =
    other_element xs s p v (λ p_is_s. p_isnt_s (ap suc p_is_s))

-- the element that is set
pub set_element : {A : Type 0} (xs : List A) (s : ℕ) (v x : A) → slice_get xs s ≡ Some x
    → slice_get (set xs s v) s ≡ Some v
set_element [] s v x is_x = grind (arith, common_steps)
set_element (y ∷ xs) zero v x is_x = refl
set_element (y ∷ xs) (suc s) v x is_x = set_element xs s v x is_x

-- none of the places from `first` up to `last` is free
abbrev pub AreTaken : List ℕ → ℕ → ℕ → Type 0
AreTaken guesses first last =
    (p : ℕ) → first ≤ p → p < last → slice_get guesses p ≢ Some no_guess

-- one more place that isn't free
pub one_more_taken : (guesses : List ℕ) (first p : ℕ) → AreTaken guesses first p
    → slice_get guesses p ≢ Some no_guess → AreTaken guesses first (p + 1)
one_more_taken guesses first p are_taken p_is_taken q first_le_q q_le_p q_is_free =
    elim (cases_lt q p) [
      | inl q_lt_p ↦ are_taken q first_le_q q_lt_p q_is_free
      | inr p_le_q ↦ p_is_taken (let q_is_p : q ≡ p = omega (arith, p_le_q, q_le_p) in
          sym (ap (slice_get guesses) q_is_p) ∙ q_is_free)
    ]

-- the index is guessed before a free one of the places from `first` on
abbrev IsGuessedFrom : List ℕ → ℕ → ℕ → Type 0
IsGuessedFrom guesses i first =
    (k : ℕ) → k < window → slice_get guesses (first + k) ≡ Some no_guess
    → (m : ℕ) × (m < k) × (i < no_guess) × (slice_get guesses (first + m) ≡ Some i)

-- the same, where a free place gets a guess
guessed_from_in_filled_place : (guesses : List ℕ) (p v first i : ℕ)
    → slice_get guesses p ≡ Some no_guess → IsGuessedFrom guesses i first
    → IsGuessedFrom (set guesses p v) i first
guessed_from_in_filled_place guesses p v first i p_is_free is_guessed =
    grind (arith, nat_tests, set, length-set, other_element, slice_get, set_element, same_Some)

-- where a free place gets a guess, the names are guessed as before
pub guessed_in_filled_place : (guesses : List ℕ) (p v : ℕ) (w : Bytes) (i : ℕ)
    → slice_get guesses p ≡ Some no_guess → IsGuessed guesses w i → IsGuessed (set guesses p v) w i
guessed_in_filled_place guesses p v w i p_is_free is_guessed =
    rw (length-set) (guessed_from_in_filled_place guesses p v (first_place w (length guesses)) i
    p_is_free is_guessed)

-- a guess that was put into the first free place from `first` on
first_free_filled : (guesses : List ℕ) (p v first k : ℕ) → v < no_guess → first ≤ p
    → AreTaken guesses first p → slice_get guesses p ≡ Some no_guess
    → slice_get (set guesses p v) (first + k) ≡ Some no_guess
    → (m : ℕ) × (m < k) × (v < no_guess) × (slice_get (set guesses p v) (first + m) ≡ Some v)
first_free_filled guesses p v first k v_is_guess first_le_p are_taken p_is_free is_free =
    let p_has_v = set_element guesses p v no_guess p_is_free in
    elim (cases_order (first + k) p) [
      | inl is_p ↦ (let v_is_none = same_Some _ _ (sym p_has_v
          ∙ sym (ap (slice_get (set guesses p v)) is_p) ∙ is_free) in
          absurd (omega (arith, v_is_none, v_is_guess)))
      | inr (inl before_p) ↦ absurd (are_taken (first + k) (omega arith) before_p
          (sym (other_element guesses p (first + k) v (λ is_p. omega (arith, is_p, before_p)))
          ∙ is_free))
      | inr (inr behind_p) ↦ (let p_is : first + (p - first) ≡ p = omega (arith, first_le_p) in (
        p - first,
        omega (arith, behind_p, first_le_p),
        v_is_guess,
        ap (slice_get (set guesses p v)) p_is ∙ p_has_v,
      ))
    ]

-- a guess that was put into the first free one of its places
pub guessed_at_first_free : (guesses : List ℕ) (p v : ℕ) (w : Bytes) → v < no_guess
    → first_place w (length guesses) ≤ p
    → AreTaken guesses (first_place w (length guesses)) p
    → slice_get guesses p ≡ Some no_guess → IsGuessed (set guesses p v) w v
guessed_at_first_free guesses p v w v_is_guess first_le_p are_taken p_is_free k k_lt_window =
    rw (length-set) (first_free_filled guesses p v (first_place w (length guesses)) k v_is_guess
    first_le_p are_taken p_is_free)

-- with the name at `index` guessed, each name is, if the others are
pub guessed_with_one_more : (ns : List Bytes) (guesses new : List ℕ) (index : ℕ) (word : Bytes)
    → slice_get ns index ≡ Some word
    → ((i : ℕ) (w : Bytes) → i ≢ index → slice_get ns i ≡ Some w → IsGuessed guesses w i)
    → ((w : Bytes) (i : ℕ) → IsGuessed guesses w i → IsGuessed new w i)
    → IsGuessed new word index → AreGuessed ns new
guessed_with_one_more ns guesses new index word is_word others others_stay is_guessed i w is_w =
    elim (cases_order i index) [
      | inl i_is ↦ subst (λ v. IsGuessed new v i)
          (same_Some _ _ (sym is_word ∙ sym (ap (slice_get ns) i_is) ∙ is_w))
          (subst (λ k. IsGuessed new word k) (sym i_is) is_guessed)
      | inr (inl before) ↦
          others_stay w i (others i w (λ i_is. omega (arith, i_is, before)) is_w)
      | inr (inr behind) ↦
          others_stay w i (others i w (λ i_is. omega (arith, i_is, behind)) is_w)
    ]

-- the names up to the one at `index` are guessed, if this and those before it are
pub guessed_up_to : (ns : List Bytes) (guesses new : List ℕ) (index : ℕ) (word : Bytes)
    → slice_get ns index ≡ Some word
    → ((i : ℕ) (w : Bytes) → i < index → slice_get ns i ≡ Some w → IsGuessed guesses w i)
    → ((w : Bytes) (i : ℕ) → IsGuessed guesses w i → IsGuessed new w i)
    → IsGuessed new word index
    → (i : ℕ) (w : Bytes) → i < index + 1 → slice_get ns i ≡ Some w → IsGuessed new w i
guessed_up_to ns guesses new index word is_word earlier others_stay is_guessed i w i_le is_w =
    elim (cases_lt i index) [
      | inl before ↦ others_stay w i (earlier i w before is_w)
      | inr index_le ↦ (let i_is : i ≡ index = omega (arith, i_le, index_le) in
          subst (λ v. IsGuessed new v i)
          (same_Some _ _ (sym is_word ∙ sym (ap (slice_get ns) i_is) ∙ is_w))
          (subst (λ k. IsGuessed new word k) (sym i_is) is_guessed))
    ]

-- a name whose places are all taken
pub guessed_if_all_taken : (guesses : List ℕ) (w : Bytes) (i : ℕ)
    → AreTaken guesses (first_place w (length guesses))
    (first_place w (length guesses) + window) → IsGuessed guesses w i
guessed_if_all_taken guesses w i are_taken k k_lt_window is_free =
    absurd (are_taken (first_place w (length guesses) + k) (omega arith) (omega (
      arith,
      k_lt_window,
    )) is_free)

-- the places from `first` up to `last` have no guess that is right
abbrev pub HaveOthers : List Bytes → List ℕ → Bytes → ℕ → ℕ → Type 0
HaveOthers ns guesses w first last =
    (p i : ℕ) → first ≤ p → p < last → slice_get guesses p ≡ Some i → slice_get ns i ≢ Some w

-- one more place whose guess isn't right
pub one_more_other : (ns : List Bytes) (guesses : List ℕ) (w : Bytes) (first p : ℕ)
    → HaveOthers ns guesses w first p
    → ((i : ℕ) → slice_get guesses p ≡ Some i → slice_get ns i ≢ Some w)
    → HaveOthers ns guesses w first (p + 1)
one_more_other ns guesses w first p have_others p_has_other q i first_le_q q_le_p is_guess =
    elim (cases_lt q p) [
      | inl q_lt_p ↦ have_others q i first_le_q q_lt_p is_guess
      | inr p_le_q ↦ p_has_other i (let q_is_p : q ≡ p = omega (arith, p_le_q, q_le_p) in
          sym (ap (slice_get guesses) q_is_p) ∙ is_guess)
    ]

-- a word without an index among the names isn't one of them
isnt_in : (ns : List Bytes) (w : Bytes) → ((i : ℕ) → slice_get ns i ≢ Some w) → is_in w ns ≡ false
isnt_in ns w no_name_is_w = false_from_ne_true (is_in w ns)
    (λ w_in_ns. no_name_is_w (index_of w ns) (name_at_index_of ns w w_in_ns))

-- a guess before a free place
guess_isnt_right : (ns : List Bytes) (guesses : List ℕ) (w : Bytes) (first p i : ℕ)
    → HaveOthers ns guesses w first p → slice_get ns i ≡ Some w
    → (m : ℕ) × (m < p - first) × (i < no_guess) × (slice_get guesses (first + m) ≡ Some i) → ⊥
guess_isnt_right ns guesses w first p i others name_is_w (m, m_lt, i_is_guess, has_i) =
    others (first + m) i (omega arith) (omega (arith, m_lt)) has_i name_is_w

-- a word with a free place, before which no guess is right, is none of the names
pub absent_at_free_place : (ns : List Bytes) (guesses : List ℕ) (w : Bytes) (first p : ℕ)
    → AreGuessed ns guesses → first ≡ first_place w (length guesses) → first ≤ p
    → p < first + window → HaveOthers ns guesses w first p → slice_get guesses p ≡ Some no_guess
    → is_in w ns ≡ false
absent_at_free_place ns guesses w first p are_guessed first_is first_le_p p_lt_end others is_free =
    let p_is : first + (p - first) ≡ p = omega (arith, first_le_p) in
    isnt_in ns w (λ i name_is_w. guess_isnt_right ns guesses w first p i others name_is_w
    (subst (IsGuessedFrom guesses i) (sym first_is) (are_guessed i w name_is_w) (p - first)
    (omega (arith, first_le_p, p_lt_end)) (ap (slice_get guesses) p_is ∙ is_free)))

-- a name is there if it has a value
has_value : {V : Type 0} (es : List (Name × V)) (w : Bytes)
    → is_some (find es w) ≡ is_in w (names_of es)
has_value es w = grind (arith, common_steps, is_some-lookup, bytes_eq, key_is_name)

-- a word that is none of the names has no value
pub missing_value : {V : Type 0} (es : List (Name × V)) (w : Bytes)
    → is_in w (names_of es) ≡ false → find es w ≡ None
missing_value es w isnt_in_names = grind (arith, common_steps, has_value es w)

-- a word among the names with it has its number there
pub name_is_added_at_index : (w : Bytes) (ns : List Bytes)
    → slice_get (with_name w ns) (index_of w ns) ≡ Some w
name_is_added_at_index w ns = by_test (is_in w ns) refl
  where
    last_element : (xs : List Bytes) (x : Bytes) → slice_get (xs ++ x ∷ []) (length xs) ≡ Some x
    last_element [] x = refl
    last_element (y ∷ xs) x = last_element xs x

    by_test : (b : Bool) → is_in w ns ≡ b
        → slice_get (if b then ns else (ns ++ w ∷ [])) (index_of w ns) ≡ Some w
    by_test true w_is_in = name_at_index_of ns w w_is_in
    by_test false w_is_new =
        ap (slice_get (ns ++ w ∷ [])) (sym (missing_index_is_length w ns w_is_new))
        ∙ last_element ns w

-- the other names have their numbers of before
pub other_names_stay : (w : Bytes) (ns : List Bytes) (i : ℕ) (v : Bytes) → i ≢ index_of w ns
    → slice_get (with_name w ns) i ≡ Some v → slice_get ns i ≡ Some v
other_names_stay w ns i v i_isnt_index is_v = by_test (is_in w ns) refl is_v
  where
    before_last : (xs : List Bytes) (i : ℕ) → i ≢ length xs
        → slice_get (xs ++ w ∷ []) i ≡ Some v → slice_get xs i ≡ Some v
    before_last [] zero isnt_last is_v = absurd (isnt_last refl)
    before_last [] (suc i) isnt_last is_v = is_v
    before_last (y ∷ xs) zero isnt_last is_v = is_v
    before_last (y ∷ xs) (suc i) isnt_last is_v =
        before_last xs i (λ is_last. isnt_last (ap suc is_last)) is_v

    by_test : (b : Bool) → is_in w ns ≡ b
        → slice_get (if b then ns else (ns ++ w ∷ [])) i ≡ Some v → slice_get ns i ≡ Some v
    by_test true w_is_in is_v = is_v
    by_test false w_is_new is_v =
        before_last ns i (λ is_last. i_isnt_index (is_last ∙ missing_index_is_length w ns w_is_new))
        is_v

-- the names stay guessed where one that was there is added again
pub known_name_stays_guessed : (w : Bytes) (ns : List Bytes) (guesses : List ℕ)
    → is_in w ns ≡ true → AreGuessed ns guesses → AreGuessed (with_name w ns) guesses
known_name_stays_guessed w ns guesses w_is_in are_guessed i v is_v =
    are_guessed i v (ap (λ names. slice_get names i)
    (sym (with_known_name_is_unchanged w ns w_is_in)) ∙ is_v)
