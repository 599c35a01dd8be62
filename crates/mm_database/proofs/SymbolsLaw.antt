-- Symbols in the order of their first declarations.
use Rattle.std.proofs.lemmas.Bool.{false_from_ne_true, or_parts}
use Rattle.std.proofs.lemmas.Option.{same_Some, slice_get_past, none-some}
use Rattle.std.proofs.Common.{rules, ◌≡◌, ◌≤◌, ℕ, zero, suc, Bool, true, false, ◌||◌, ◌&&◌, not}
use Rattle.std.proofs.Common.{List, nat_lt, None, cond, ◌+◌}
use Rattle.std.proofs.Common.{[], ◌∷◌, ◌++◌, length, slice_get, Some, bytes_eq, refl, sym, ap, ap₂}
use Rattle.std.proofs.Common.{◌∙◌, arith, true≢false, map}
use Rattle.std.proofs.lemmas.Grind.{common_steps}
use Rattle.std.proofs.lemmas.List.Folds.{list_any-append}
use Rattle.std.specs.List.{list_any, position_or_len, position}
use Rattle.std.proofs.lemmas.List.Recursion.{is_position_or_len}
use Rattle.std.proofs.lemmas.Slice.Eq.{bytes_eq-Decides}
use Rattle.std.proofs.Math.Bool.{or-true}
use Rattle.mm_spec.specs.Text.{Bytes, is_in}
use Rattle.mm_spec.specs.Frame.{first_occurrences, index_of}
use Rattle.mm_spec.proofs.FindsLaw.{equal_bytes_equal_words}
use Rattle.mm_database.specs.declared.name.Name.{Name}
use Rattle.mm_database.specs.Names.{are_distinct, with_name}

pub bytes_eq_itself : (w : Bytes) → bytes_eq w w ≡ true
bytes_eq_itself w = (bytes_eq-Decides w w).1 refl

-- three tests in another order
or_rotate : (a b c : Bool) → ((a || b) || c) ≡ (b || (a || c))
or_rotate a b c = grind (arith, common_steps)

-- the word, if it is new
abbrev pub if_new : Bool → Bytes → List Bytes
if_new true w = []
if_new false w = w ∷ []

-- the first occurrences with one word in front
first_occurrences_cons : (e : List Bytes) (v : Bytes) (ws : List Bytes) (b : Bool) → is_in v e ≡ b
    → first_occurrences e (v ∷ ws)
    ≡ elim b [ true ↦ first_occurrences e ws | false ↦ v ∷ first_occurrences (v ∷ e) ws ]
first_occurrences_cons e v ws b v_in_e_is_b = grind (arith, common_steps)

-- the first occurrences in a list with one word more: the word is added if it is new
pub first_occurrences_append : (ws e : List Bytes) (w : Bytes)
    → first_occurrences e (ws ++ w ∷ [])
    ≡ first_occurrences e ws ++ if_new (is_in w e || is_in w ws) w
first_occurrences_append [] e w = grind (arith, common_steps)
first_occurrences_append (v ∷ ws) e w =
    search (
      rules,
      arith,
      bytes_eq,
      equal_bytes_equal_words,
      first_occurrences_cons,
      or_rotate,
      (first_occurrences_append ws e w),
      (first_occurrences_append ws (v ∷ e) w),
    )

-- the words are those, but for the earlier ones
pub in_first_occurrences : (ws e : List Bytes) (w : Bytes) → is_in w e ≡ false
    → is_in w (first_occurrences e ws) ≡ is_in w ws
in_first_occurrences [] e w w_not_in_e = refl
in_first_occurrences (v ∷ ws) e w w_not_in_e =
    search (
      rules,
      arith,
      bytes_eq,
      true≢false,
      equal_bytes_equal_words,
      first_occurrences_cons,
      (in_first_occurrences ws e w w_not_in_e),
      (in_first_occurrences ws (v ∷ e) w),
    )

-- the names with a word more
abbrev pub added : List Bytes → Bytes → List Bytes
added ns w = ns ++ if_new (is_in w ns) w

-- the first occurrences with one word at the end
pub first_occurrences_push : (ws : List Bytes) (w : Bytes)
    → first_occurrences [] (ws ++ w ∷ []) ≡ added (first_occurrences [] ws) w
first_occurrences_push ws w = search (rules, arith, first_occurrences_append, in_first_occurrences)

-- a name's index
pub name_at_index_of : (ns : List Bytes) (w : Bytes) → is_in w ns ≡ true
    → slice_get ns (index_of w ns) ≡ Some w
name_at_index_of [] w w_in_ns = absurd (true≢false (sym w_in_ns))
name_at_index_of (n ∷ ns) w w_in_ns =
    search (rules, arith, bytes_eq, slice_get, equal_bytes_equal_words, (name_at_index_of ns w))

-- a name with a number is one of the names
pub element_is_in_names : (ns : List Bytes) (s : ℕ) (w : Bytes) → slice_get ns s ≡ Some w
    → is_in w ns ≡ true
element_is_in_names [] s w element_is_w =
    absurd (none-some w (sym (slice_get_past [] s (omega arith)) ∙ element_is_w))
element_is_in_names (n ∷ ns) zero w element_is_w = search (rules, arith, bytes_eq, bytes_eq_itself)
element_is_in_names (n ∷ ns) (suc s) w element_is_w =
    ap (λ b. bytes_eq w n || b) (element_is_in_names ns s w element_is_w) ∙ or-true (bytes_eq w n)

-- a key that equals the word is a name that does
pub key_is_name : (w : Bytes) (ks : List (Name))
    → list_any (λ k. bytes_eq w k.bytes.now) ks ≡ is_in w (map (λ k. k.bytes.now) ks)
key_is_name w [] = refl
key_is_name w (k ∷ ks) = ap (λ b. bytes_eq w k.bytes.now || b) (key_is_name w ks)

-- where the code finds a name
pub position_is_index : (w : Bytes) (ks : List (Name))
    → position_or_len (λ k. bytes_eq w k.bytes.now) ks ≡ index_of w (map (λ k. k.bytes.now) ks)
position_is_index w ks =
    sym (is_position_or_len (λ (xs : List (Name)). index_of w (map (λ k. k.bytes.now) xs))
    (λ k. bytes_eq w k.bytes.now) refl
    (λ x xs. elim_is_cond (bytes_eq w x.bytes.now) (index_of w (map (λ k. k.bytes.now) xs))) ks)
  where
    elim_is_cond : (b : Bool) (n : ℕ) → elim b [ true ↦ 0 | false ↦ suc n ] ≡ cond b 0 (1 + n)
    elim_is_cond true n = refl
    elim_is_cond false n = omega arith

-- the index of a name that is found, and of one that is not
pub position_is_index_of : (w : Bytes) (ks : List (Name)) (n : ℕ)
    → position (λ k. bytes_eq w k.bytes.now) ks ≡ Some n
    → n ≡ index_of w (map (λ k. k.bytes.now) ks)
position_is_index_of w ks n position_is_n =
    is_position (nat_lt (position_or_len (λ k. bytes_eq w k.bytes.now) ks) (length ks))
    position_is_n
    ∙ position_is_index w ks
  where
    is_position : (b : Bool) → cond b (Some (position_or_len (λ k. bytes_eq w k.bytes.now) ks)) None
        ≡ Some n
        → n ≡ position_or_len (λ k. bytes_eq w k.bytes.now) ks
    is_position true found_is_n =
        let some_is_n : Some (position_or_len (λ k. bytes_eq w k.bytes.now) ks)
        ≡ Some n = found_is_n in cc
    is_position false found_is_n = let some_is_n : None ≡ Some n = found_is_n in cc

-- a word that is no name has the number after the last
pub missing_index_is_length : (w : Bytes) (ns : List Bytes) → is_in w ns ≡ false
    → length ns ≡ index_of w ns
missing_index_is_length w [] w_not_in_ns = refl
missing_index_is_length w (n ∷ ns) w_not_in_ns =
    grind (arith, common_steps, bytes_eq, true≢false, (missing_index_is_length w ns))

-- a word's index is at most the number of names
pub index_of_le_length : (w : Bytes) (ns : List Bytes) → index_of w ns ≤ length ns
index_of_le_length w [] = omega arith
index_of_le_length w (n ∷ ns) = by_test (bytes_eq w n) (index_of_le_length w ns)
  where
    by_test : (b : Bool) → index_of w ns ≤ length ns
        → elim b [ true ↦ 0 | false ↦ suc (index_of w ns) ] ≤ suc (length ns)
    by_test true earlier = omega arith
    by_test false earlier = omega arith

-- ---- names of which none stands twice

left_is_false : (a b : Bool) → (not a && b) ≡ true → a ≡ false
left_is_false a b both_hold = grind (arith, common_steps)

right_is_true : (a b : Bool) → (not a && b) ≡ true → b ≡ true
right_is_true a b both_hold = grind (arith, common_steps, true≢false)

-- the index of a name is where it stands
pub index_of_distinct : (ns : List Bytes) → are_distinct ns ≡ true → (i : ℕ) (w : Bytes)
    → slice_get ns i ≡ Some w → i ≡ index_of w ns
index_of_distinct [] are_distinct_names i w element_i_is_w =
    absurd (none-some w (sym (slice_get_past [] i (omega arith)) ∙ element_i_is_w))
index_of_distinct (n ∷ ns) are_distinct_names zero w element_i_is_w =
    grind (arith, common_steps, bytes_eq, same_Some, bytes_eq_itself)
index_of_distinct (n ∷ ns) are_distinct_names (suc i) w element_i_is_w =
    let n_is_new = left_is_false (is_in n ns) (are_distinct ns) are_distinct_names in
    let rest = index_of_distinct ns (right_is_true (is_in n ns) (are_distinct ns)
    are_distinct_names) i w element_i_is_w in
    let w_isnt_n = false_from_ne_true (bytes_eq w n) (λ w_is_n.
    true≢false (sym (element_is_in_names ns i w element_i_is_w)
    ∙ ap (λ x. is_in x ns) (equal_bytes_equal_words w n w_is_n) ∙ n_is_new)) in
    rw (index_of, w_isnt_n) (ap suc rest)

-- names of which none is twice stay such with a new one
distinct_push : (ns : List Bytes) (w : Bytes) → are_distinct ns ≡ true → is_in w ns ≡ false
    → are_distinct (ns ++ w ∷ []) ≡ true
distinct_push [] w are_distinct_names w_not_in_ns = refl
distinct_push (n ∷ ns) w are_distinct_names w_not_in_ns =
    let parts = or_parts (bytes_eq w n) (is_in w ns) w_not_in_ns in
    let n_isnt_w = false_from_ne_true (bytes_eq n w) (λ n_is_w. true≢false (sym
    (ap (λ x. bytes_eq x n) (sym (equal_bytes_equal_words n w n_is_w)) ∙ bytes_eq_itself n)
    ∙ parts.0)) in
    ap₂ (λ a b. not a && b) (list_any-append (bytes_eq n) ns (w ∷ [])
    ∙ ap₂ (λ a b. a || (b || false)) (left_is_false (is_in n ns) (are_distinct ns)
    are_distinct_names) n_isnt_w)
    (distinct_push ns w (right_is_true (is_in n ns) (are_distinct ns) are_distinct_names) parts.1)

-- a name more, where it is new
pub distinct_with_name : (w : Bytes) (ns : List Bytes) → are_distinct ns ≡ true
    → are_distinct (with_name w ns) ≡ true
distinct_with_name w ns are_distinct_names = grind (arith, common_steps, distinct_push)
