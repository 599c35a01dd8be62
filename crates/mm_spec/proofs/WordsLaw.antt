-- The words of a text, as a set: each longest run of bytes that aren't white, once, in order.
use Rattle.std.proofs.Common.{rules, ◌≡◌, ℕ, zero, suc, ◌+◌, ◌-◌, ◌<◌, ◌≤◌, ◌⊎◌, Bool, true, false}
use Rattle.std.proofs.Common.{not, List, [], ◌∷◌, length, drop, get_or, refl, sym, ap, subst, ◌∙◌}
use Rattle.std.proofs.Common.{arith, ⊎_elim, length-drop, get_or-drop, true≢false, eqb-true}
use Rattle.std.proofs.lemmas.Grind.{common_steps}
use Rattle.std.specs.List.{All, AllPairs, Contains}
use Rattle.std.proofs.lemmas.List.Sums.{prefix_len_is}
use Rattle.std.proofs.lemmas.List.Elements.{All-nil, All-weaker, All-tail, All-contains}
use Rattle.std.proofs.lemmas.List.Kept.{AllPairs-cons}
use Rattle.std.proofs.lemmas.Bool.{and_parts, or_cases, cases_lt, cases_eq, not-true}
use Rattle.mm_spec.specs.declared.Word.{Word}
use Rattle.mm_spec.specs.Bytes.{is_white}
use Rattle.mm_spec.specs.Words.{white_at, begins_word, word_at, words_between, words_of}
use Rattle.mm_spec.proofs.WordsBetweenLaw.{IsBoundary, words_between_skip, words_between_take}
use Rattle.mm_spec.proofs.WordsBetweenLaw.{words_between_none, word_at_is_word, boundary_begins_word}
use Rattle.mm_spec.specs.Laws.Words.{AreWords, IsWord}
use Rattle.mm_spec.proofs.ListLaw.{pairs_tail}

-- what the test for the beginning of a word says
pub begins_word_not_white : (text : List ℕ) (i : ℕ) → begins_word text i ≡ true
    → white_at text i ≡ false
unfolding begins_word
begins_word_not_white text i begins = not-true _ (and_parts (not (white_at text i)) _ begins).0

pub begins_word_boundary : (text : List ℕ) (i : ℕ) → begins_word text i ≡ true → IsBoundary text i
unfolding begins_word
begins_word_boundary text i begins j is_place_before _ _ =
    search (rules, arith, ⊎_elim, eqb-true, or_cases, and_parts)

-- a word begins at its start, and is the word there
pub IsWord_begins : {text : List ℕ} {w : Word} → IsWord text w → begins_word text w.start ≡ true
IsWord_begins h1 = grind (arith, common_steps, boundary_begins_word)

pub word_at_start_is_word : {text : List ℕ} {w : Word} → IsWord text w → word_at text w.start ≡ w
unfolding word_at white_at
word_at_start_is_word {text} {w} is_word =
    let is_not_white : ℕ → Bool = λ b. not (is_white b) in
    let n : ℕ = w.end - w.start in
    let dropped_length : length (drop w.start text) ≡ length text - w.start =
    length-drop w.start text in
    let end_is : w.start + (w.end - w.start) ≡ w.end = omega (arith, is_word.nonempty) in
    let byte_is : (k : ℕ)
    → not (is_white (get_or (drop w.start text) k 0))
    ≡ not (is_white (get_or text (w.start + k) 0)) = search (rules, arith, get_or-drop) in
    let not_white : (k : ℕ) → k < w.end - w.start
    → not (is_white (get_or (drop w.start text) k 0)) ≡ true =
    search (rules, arith) in
    let white_after : w.end - w.start < length (drop w.start text)
    → not (is_white (get_or (drop w.start text) (w.end - w.start) 0)) ≡ false =
    search (rules, arith) in
    let prefix_is_word = prefix_len_is is_not_white (drop w.start text) (w.end - w.start) 0
    (omega (arith, is_word.within)) not_white white_after in
    grind (arith, common_steps)

word_at_start : (text : List ℕ) (i : ℕ) → (word_at text i).start ≡ i
unfolding word_at
word_at_start text i = refl

-- two words don't overlap
pub words_do_not_overlap : {text : List ℕ} {v w : Word} → IsWord text v → IsWord text w
    → v.start < w.start
    → v.end ≤ w.start
words_do_not_overlap {text} {v} {w} v_is_word w_is_word v_begins_first =
    ⊎_elim {C = v.end ≤ w.start}
    (λ w_begins_inside. absurd
    (true≢false
    (sym (w_is_word.white_before (w.start - 1) (omega arith))
    ∙ v_is_word.no_white (w.start - 1) (omega arith) (omega arith))))
    (λ v_end_le_start. v_end_le_start)
    (cases_lt w.start v.end)

Contains_head : {X : Type 0} (x : X) (xs : List X) → Contains (x ∷ xs) x
Contains_head x xs = (0, (omega arith), refl)

Contains_tail : {X : Type 0} (x y : X) (xs : List X) → Contains xs y → Contains (x ∷ xs) y
Contains_tail x y xs (k, k_lt_length, got_y) = (suc k, (omega arith), got_y)

-- a place either begins a word or doesn't, and what that says of the words
pub words_between_cases : (text : List ℕ) (i to : ℕ) → i < to →
    ((begins_word text i ≡ true)
    × (words_between text i to ≡ word_at text i ∷ words_between text (i + 1) to))
    ⊎ ((begins_word text i ≡ false) × (words_between text i to ≡ words_between text (i + 1) to))
words_between_cases text i to i_lt_to =
    grind (arith, common_steps, words_between_skip, words_between_take)

begun_word_is_word : (text : List ℕ) (i : ℕ) → i < length text → begins_word text i ≡ true
    → IsWord text (word_at text i)
begun_word_is_word text i i_lt_length begins =
    word_at_is_word text i i_lt_length (begins_word_not_white text i begins)
    (begins_word_boundary text i begins)

abbrev IsWordFrom : List ℕ → ℕ → Word → Type 0
IsWordFrom text low w = IsWord text w × (low ≤ w.start)

-- each of the words between two places is a word of the text, and begins at `low` or later
pub each_between_is_word : (text : List ℕ) (low n i to : ℕ) → i + n ≡ to → to ≤ length text
    → low ≤ i
    → All (IsWordFrom text low) (words_between text i to)
each_between_is_word text low zero i to i_plus_n to_le_length low_le_i =
    grind (arith, common_steps, words_between_none, All-nil)
each_between_is_word text low (suc n) i to i_plus_n to_le_length low_le_i =
    let later =
    each_between_is_word text low n (i + 1) to (omega arith) to_le_length (omega arith) in
    search (rules, ⊎_elim, begun_word_is_word, word_at_start, words_between_cases, arith, later)

-- none is left out
pub words_between_have_each : (text : List ℕ) (n i to : ℕ) → i + n ≡ to → (w : Word) → IsWord text w
    → i ≤ w.start → w.start < to → Contains (words_between text i to) w
words_between_have_each text zero i to i_plus_n w is_word i_le_start start_lt_to =
    absurd (omega arith)
words_between_have_each text (suc n) i to i_plus_n w is_word i_le_start start_lt_to =
    ⊎_elim {C = Contains (words_between text i to) w}
    (λ start_is_i. subst (λ (ws : List Word). Contains ws w)
    (sym (words_between_take text i to (omega arith)
    (cc (IsWord_begins is_word))))
    (search (rules, arith, word_at_start_is_word)))
    (λ start_is_not_i.
    let contained_later : Contains (words_between text (i + 1) to) w =
    words_between_have_each text n (i + 1) to (omega arith) w is_word (omega arith) start_lt_to in
    ⊎_elim {C = Contains (words_between text i to) w}
    (grind (arith, common_steps, List Word, Contains_tail (word_at text i) w _ contained_later))
    (search (rules, arith))
    (words_between_cases text i to (omega arith)))
    (cases_eq w.start i)

abbrev EndsBefore : Word → Word → Type 0
EndsBefore v w = v.end ≤ w.start

pub words_between_rise : (text : List ℕ) (n i to : ℕ) → i + n ≡ to → to ≤ length text
    → AllPairs EndsBefore (words_between text i to)
words_between_rise text zero i to i_plus_n to_le_length = search (rules, arith, words_between_none)
words_between_rise text (suc n) i to i_plus_n to_le_length =
    let later_rise : AllPairs EndsBefore (words_between text (i + 1) to) =
    words_between_rise text n (i + 1) to (omega arith) to_le_length in
    let each_later : All (IsWordFrom text (i + 1)) (words_between text (i + 1) to) =
    each_between_is_word text (i + 1) n (i + 1) to (omega arith) to_le_length (omega arith) in
    ⊎_elim {C = AllPairs EndsBefore (words_between text i to)}
    (λ is_taken. subst (AllPairs EndsBefore) (sym is_taken.1)
    (AllPairs-cons EndsBefore (word_at text i) _
    (All-weaker (IsWordFrom text (i + 1)) (EndsBefore (word_at text i))
    (λ w is_word_from. words_do_not_overlap (begun_word_is_word text i (omega arith) is_taken.0)
    is_word_from.0
    (omega (arith, is_word_from.1, word_at_start text i))) _ each_later)
    later_rise))
    (search (rules, arith))
    (words_between_cases text i to (omega arith))

pub words_of_are_words : (text : List ℕ) → AreWords text (words_of text)
words_of_are_words text = record {
  rising = words_between_rise text (length text) 0 (length text) (omega arith) (omega arith);
  each =
      let each_is_word = each_between_is_word text 0 (length text) 0 (length text) (omega arith)
      (omega arith) (omega arith) in
      grind (arith, common_steps);
  all =
      λ w is_word. words_between_have_each text (length text) 0 (length text) (omega arith) w
      is_word
      (omega arith) (omega (arith, is_word.within, is_word.nonempty));
}

-- ---- two rising lists of the same words are one list

contained_is_head_or_later : {X : Type 0} (x : X) (xs : List X) (y : X) → Contains (x ∷ xs) y
    → (x ≡ y) ⊎ Contains xs y
contained_is_head_or_later x xs y h1 = grind (arith, common_steps)

-- in a list of words that follow each other, each one after the first begins after the end of the
-- first
later_begins_after_head : (w : Word) (ws : List Word) → AllPairs EndsBefore (w ∷ ws) → (v : Word)
    → Contains ws v → w.end ≤ v.start
later_begins_after_head w ws words_rise v (k, k_lt_length, got_v) =
    subst (λ (u : Word). w.end ≤ u.start) got_v (words_rise 0 (suc k) v (omega arith) (omega arith))

-- each word of ws is in vs
abbrev AreIn : List Word → List Word → Type 0
AreIn ws vs = (w : Word) → Contains ws w → Contains vs w

contained_is_nonempty : (text : List ℕ) (ws : List Word) → All (IsWord text) ws → (w : Word)
    → Contains ws w
    → w.start < w.end
contained_is_nonempty text ws are_words w contains_w = grind (arith, common_steps, All-contains)

equal_words_equal_heads : (text : List ℕ) (w v : Word) (ws vs : List Word)
    → All (IsWord text) (w ∷ ws)
    → All (IsWord text) (v ∷ vs) → AllPairs EndsBefore (w ∷ ws) → AllPairs EndsBefore (v ∷ vs) →
    AreIn (w ∷ ws) (v ∷ vs) → AreIn (v ∷ vs) (w ∷ ws) → w ≡ v
equal_words_equal_heads text w v ws vs are_w are_v rise_w rise_v in_vs in_ws =
    ⊎_elim {C = w ≡ v}
    sym
    (λ w_in_vs. ⊎_elim {C = w ≡ v}
    (λ v_is_w. v_is_w)
    (λ v_in_ws.
    let v_end_le_w : v.end ≤ w.start = later_begins_after_head v vs rise_v w w_in_vs in
    let w_end_le_v : w.end ≤ v.start = later_begins_after_head w ws rise_w v v_in_ws in
    let w_is_nonempty : w.start < w.end =
    contained_is_nonempty text (w ∷ ws) are_w w (Contains_head w ws) in
    let v_is_nonempty : v.start < v.end =
    contained_is_nonempty text (v ∷ vs) are_v v (Contains_head v vs) in
    absurd (omega arith))
    (contained_is_head_or_later w ws v (in_ws v (Contains_head v vs))))
    (contained_is_head_or_later v vs w (in_vs w (Contains_head w ws)))

-- if two lists begin with the same word, and the first has only words of the second, the same is
-- true of what follows that word
equal_words_equal_tails : (text : List ℕ) (w : Word) (ws vs : List Word)
    → All (IsWord text) (w ∷ ws)
    → AllPairs EndsBefore (w ∷ ws) → AreIn (w ∷ ws) (w ∷ vs) → AreIn ws vs
equal_words_equal_tails text w ws vs are_words words_rise in_vs u contains_u =
    let w_before_u = later_begins_after_head w ws words_rise u contains_u in
    let w_is_nonempty = contained_is_nonempty text (w ∷ ws) are_words w (Contains_head w ws) in
    let cases = contained_is_head_or_later w vs u (in_vs u (Contains_tail w u ws contains_u)) in
    grind (arith, common_steps)

empty_contains_none : (w : Word) → Contains {X = Word} [] w → ⊥
empty_contains_none w (k, k_lt_zero, got_w) = omega arith

equal_words_equal_lists : (text : List ℕ) (ws vs : List Word) → All (IsWord text) ws
    → All (IsWord text) vs
    → AllPairs EndsBefore ws → AllPairs EndsBefore vs → AreIn ws vs → AreIn vs ws → ws ≡ vs
equal_words_equal_lists text [] [] are_w are_v rise_w rise_v in_vs in_ws = refl
equal_words_equal_lists text [] (v ∷ vs) are_w are_v rise_w rise_v in_vs in_ws =
    absurd (empty_contains_none v (in_ws v (Contains_head v vs)))
equal_words_equal_lists text (w ∷ ws) [] are_w are_v rise_w rise_v in_vs in_ws =
    absurd (empty_contains_none w (in_vs w (Contains_head w ws)))
equal_words_equal_lists text (w ∷ ws) (v ∷ vs) are_w are_v rise_w rise_v in_vs in_ws =
    let heads_equal : w ≡ v =
    search (rules, arith, equal_words_equal_heads) in
    let in_vs' : AreIn (w ∷ ws) (w ∷ vs) =
    subst (λ (x : Word). AreIn (w ∷ ws) (x ∷ vs)) (sym heads_equal) in_vs in
    let in_ws' : AreIn (w ∷ vs) (w ∷ ws) =
    search (rules, arith) in
    let are_v' : All (IsWord text) (w ∷ vs) =
    search (rules, arith) in
    let rise_v' : AllPairs EndsBefore (w ∷ vs) =
    search (rules, arith) in
    ap (λ (us : List Word). w ∷ us)
    (equal_words_equal_lists text ws vs (All-tail (IsWord text) w ws are_w)
    (All-tail (IsWord text) w vs are_v')
    (pairs_tail EndsBefore w ws rise_w) (pairs_tail EndsBefore w vs rise_v')
    (equal_words_equal_tails text w ws vs are_w rise_w in_vs')
    (equal_words_equal_tails text w vs ws are_v' rise_v' in_ws'))
    ∙ ap (λ (x : Word). x ∷ vs) heads_equal

pub words_are_words_of : (text : List ℕ) (ws : List Word) → AreWords text ws → ws ≡ words_of text
words_are_words_of text ws are_words =
    let read_words = words_of_are_words text in
    equal_words_equal_lists text ws (words_of text) are_words.each read_words.each are_words.rising
    read_words.rising
    (search (rules, arith))
    (search (rules, arith))
