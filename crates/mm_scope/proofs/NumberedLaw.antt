-- Symbols keep their numbers when statements are added.
use Rattle.std.proofs.Common.{rules, ◌≡◌, ℕ, zero, suc, ◌+◌, ◌-◌, ◌<◌, ◌≤◌, Bool, true, false, ◌||◌}
use Rattle.std.proofs.Common.{List, [], ◌∷◌, ◌++◌, length, map, flat_map, slice_get, slice_index}
use Rattle.std.proofs.Common.{None, Some, bytes_eq, refl, sym, subst, ap, ap₂, ◌∙◌, arith}
use Rattle.std.proofs.Common.{true≢false, append_assoc, append-nil}
use Rattle.std.proofs.lemmas.Grind.{common_steps, flat_map-append}
use Rattle.std.proofs.lemmas.Bool.Decides.{nat_tests}
use Rattle.std.proofs.lemmas.List.{map-append, length-map}
use Rattle.std.proofs.lemmas.Option.{slice_get_within, slice_get-get_or}
use Rattle.std.specs.List.Sorted.{IsStrictlyIncreasing}
use Rattle.mm_spec.specs.Text.{Bytes, is_in, words}
use Rattle.std.proofs.Math.Bool.{or-true}
use Rattle.mm_spec.specs.Statement.{Statement, symbols_of, opening}
use Rattle.mm_spec.specs.Scope.{constants_of, variables_of}
use Rattle.mm_spec.specs.Lawful.{scope_fault}
use Rattle.mm_spec.specs.Frame.{first_occurrences, symbol_names, index_of, formula_of}
use Rattle.mm_spec.specs.declared.Word as spec
use Rattle.mm_database.specs.Numbered.{AreNumbered}
use Rattle.mm_outline.specs.Parts.{between, token_at}
use Rattle.mm_spec.proofs.FindsLaw.{equal_bytes_equal_words, formula_at_place}
use Rattle.mm_outline.proofs.BetweenLaw.{between_with_one_more, nothing_between_place_and_itself}
use Rattle.mm_lists.specs.Lists.{with_end}
use Rattle.mm_database.specs.Names.{with_name}
use Rattle.mm_lists.proofs.ListsLaw.{joined_with_one_more}
use Rattle.mm_outline.proofs.StatementsLaw.{element_of_mapped}
use Rattle.mm_scope.specs.Formulas.{AreFormulas, numbers_in}
use Rattle.mm_database.proofs.SymbolsLaw.{first_occurrences_push, if_new, bytes_eq_itself}
use Rattle.mm_scope.proofs.BoundsLaw.{symbol_is_declared_name}

-- ---- one name more

-- the names of what is declared, with one word more
pub names_declared : (d : List Bytes) (w : Bytes)
    → with_name w (first_occurrences [] d) ≡ first_occurrences [] (d ++ w ∷ [])
names_declared d w = grind (arith, common_steps, first_occurrences_push, append-nil)

-- ---- more names after

-- a name keeps its number when names are added after it
pub index_of_in_front : (w : Bytes) (ns added : List Bytes) → is_in w ns ≡ true
    → index_of w (ns ++ added) ≡ index_of w ns
index_of_in_front w [] added w_in_ns = absurd (true≢false (sym w_in_ns))
index_of_in_front w (n ∷ ns) added w_in_ns = grind (arith, index_of_in_front w ns added)

-- further words add names after those that there are, and change none of them
pub first_occurrences_grow : (d ws : List Bytes)
    → (added : List Bytes) × (first_occurrences [] (d ++ ws) ≡ first_occurrences [] d ++ added)
first_occurrences_grow d [] = grind (arith, common_steps, append-nil)
first_occurrences_grow d (w ∷ ws) =
    grind (
      arith,
      common_steps,
      if_new,
      append_assoc,
      first_occurrences_push,
      (first_occurrences_grow (d ++ w ∷ []) ws),
    )

abbrev pub declared : List Statement → List Bytes
declared db = flat_map (λ s. constants_of s ++ variables_of s) db

-- what statements declare is followed by what one statement more declares
declared_push : (db : List Statement) (s : Statement)
    → declared (db ++ s ∷ []) ≡ declared db ++ (constants_of s ++ variables_of s)
declared_push db s = grind (arith, common_steps, flat_map-append, append-nil)

-- the names after a statement, by what it declares
pub declared_names_are_symbol_names : (db : List Statement) (s : Statement) (ns : List Bytes)
    → ns ≡ first_occurrences [] (declared db ++ (constants_of s ++ variables_of s))
    → ns ≡ symbol_names (db ++ s ∷ [])
declared_names_are_symbol_names db s ns ns_are_declared = grind (arith, common_steps, declared_push)

-- a statement adds names after those that there are
symbol_names_grow : (db : List Statement) (s : Statement)
    → (added : List Bytes) × (symbol_names (db ++ s ∷ []) ≡ symbol_names db ++ added)
symbol_names_grow db s =
    let grown = first_occurrences_grow (declared db) (constants_of s ++ variables_of s) in
    (grown.0, ap (first_occurrences []) (declared_push db s) ∙ grown.1)

-- the names of the first statements are the first names
pub symbol_names_in_front : (db later : List Statement)
    → (added : List Bytes) × (symbol_names (db ++ later) ≡ symbol_names db ++ added)
symbol_names_in_front db later =
    let grown = first_occurrences_grow (declared db) (declared later) in (
      grown.0,
      ap (first_occurrences []) (flat_map-append
          (λ s. constants_of s ++ variables_of s) db later) ∙ grown.1,
    )

-- ---- formulas keep their numbers

-- words that have equal numbers by two lists of names have equal lists of numbers
pub indices_equal : (ns ms : List Bytes) (ws : List Bytes)
    → ((w : Bytes) → is_in w ws ≡ true → index_of w ns ≡ index_of w ms)
    → map (λ w. index_of w ns) ws ≡ map (λ w. index_of w ms) ws
indices_equal ns ms [] index_equal = refl
indices_equal ns ms (w ∷ ws) index_equal =
    ap₂ (λ n l. n ∷ l) (index_equal w (ap (λ b. b || is_in w ws) (bytes_eq_itself w)))
    (indices_equal ns ms ws (λ v v_in_ws. index_equal v (rw v_in_ws (or-true (bytes_eq v w)))))

-- functions that are equal at each statement give equal lists
maps_equal : (f g : Statement → List ℕ) (xs : List Statement)
    → ((k : ℕ) (t : Statement) → slice_get xs k ≡ Some t → f t ≡ g t) → map f xs ≡ map g xs
maps_equal f g [] values_equal = refl
maps_equal f g (x ∷ xs) values_equal =
    ap₂ (λ a b. a ∷ b) (values_equal 0 x refl)
    (maps_equal f g xs (λ k t t_is_element_k. values_equal (suc k) t t_is_element_k))

module _ (db : List Statement) (lawful : (k : ℕ) → k < length db → scope_fault db k ≡ None)
    (s : Statement) where
  -- the database with one statement more
  abbrev longer_db : List Statement
  longer_db = db ++ s ∷ []

  -- a statement's formula is the same with one statement more
  formula_is_unchanged : (k : ℕ) (t : Statement) → slice_get db k ≡ Some t
      → formula_of longer_db t ≡ formula_of db t
  formula_is_unchanged k t t_is_statement_k =
      let names_grow = symbol_names_grow db s in
      indices_equal (symbol_names longer_db) (symbol_names db) (words (symbols_of t))
      (λ w w_in_symbols. ap (index_of w) names_grow.1
      ∙ index_of_in_front w (symbol_names db) names_grow.0
      (symbol_is_declared_name db lawful k (slice_get_within db k t t_is_statement_k) t
      t_is_statement_k w w_in_symbols))

  -- the formulas of the longer database are those of the database and that of the new statement
  formulas_push : map (formula_of db) db ++ formula_of longer_db s ∷ []
      ≡ map (formula_of longer_db) longer_db
  formulas_push =
      rw (
        map-append (formula_of longer_db) db (s ∷ []),
        maps_equal (formula_of db) (formula_of longer_db) db
            (λ k t t_is_statement_k. sym (formula_is_unchanged k t t_is_statement_k)),
      ) refl

  -- formulas of statements stay such with that of one statement more
  pub formulas_with_statement : (numbers places : List ℕ) → AreFormulas db numbers places
      → (added : List ℕ)
      → added ≡ numbers ++ formula_of longer_db s
      → AreFormulas longer_db added (with_end places (length added))
  formulas_with_statement numbers places are_formulas added symbols_are_appended =
      rw (symbols_are_appended, sym formulas_push)
      (joined_with_one_more (map (formula_of db) db)
      (formula_of longer_db s) numbers places are_formulas)

-- ---- the formulas one by one

-- the formulas of all statements are those of each statement
pub formulas_numbered : (db : List Statement) → AreNumbered db (map (formula_of db) db)
formulas_numbered db = record {
  count = length-map db (formula_of db);
  formula = λ k k_lt_length.
      element_of_mapped (formula_of db) db k (opening 0) [] k_lt_length
      ∙ sym (search (rules, arith, formula_at_place, slice_get-get_or));
}

-- ---- words numbered one by one

-- the words up to i + 1 are those up to i and the next word
pub words_between_push : (text : List ℕ) (ws : List spec.Word) (from i : ℕ) → from ≤ i
    → i < length ws
    → words (between text ws from i) ++ (token_at text ws i).word ∷ []
    ≡ words (between text ws from (i + 1))
words_between_push text ws from i from_le_i i_lt_length =
    grind (arith, common_steps, between_with_one_more, map-append)

-- the numbers of the words up to i + 1 are those up to i and that of the next word
numbers_between_push : (text : List ℕ) (ws : List spec.Word) (ns : List Bytes) (from i : ℕ)
    → from ≤ i
    → i < length ws
    → numbers_in ns (between text ws from (i + 1))
    ≡ numbers_in ns (between text ws from i) ++ index_of (token_at text ws i).word ns ∷ []
numbers_between_push text ws ns from i from_le_i i_lt_length =
    rw (
      sym (words_between_push text ws from i from_le_i i_lt_length),
      map-append (λ (w : Bytes). index_of w ns) (words (between text ws from i))
          ((token_at text ws i).word ∷ []),
    ) refl

-- numbers that were appended up to i, and then that of the next word
pub numbers_with_next : (text : List ℕ) (ws : List spec.Word) (ns : List Bytes) (from i : ℕ)
    → from ≤ i → i < length ws → (old : List ℕ) {mid new : List ℕ} {x : ℕ}
    → new ≡ mid ++ x ∷ [] → mid ≡ old ++ numbers_in ns (between text ws from i)
    → x ≡ index_of (token_at text ws i).word ns
    → new ≡ old ++ numbers_in ns (between text ws from (i + 1))
numbers_with_next text ws ns from i from_le_i i_lt_length old new_is mid_is x_is =
    grind (arith, common_steps, numbers_between_push, append_assoc)

-- there are no numbers of no words
pub numbers_between_nothing : (text : List ℕ) (ws : List spec.Word) (ns : List Bytes) (from : ℕ)
    → [] ≡ numbers_in ns (between text ws from from)
numbers_between_nothing text ws ns from = grind (arith, nat_tests, nothing_between_place_and_itself)

-- the names after the words up to i + 1 are those up to i with the next word
pub names_with_word : (text : List ℕ) (ws : List spec.Word) (from i : ℕ) → from ≤ i → i < length ws
    → (d : List Bytes)
    → with_name (token_at text ws i).word
    (first_occurrences [] (d ++ words (between text ws from i)))
    ≡ first_occurrences [] (d ++ words (between text ws from (i + 1)))
names_with_word text ws from i from_le_i i_lt_length d =
    grind (arith, common_steps, names_declared, append_assoc, words_between_push)

-- ---- words with ascending numbers

numbers_rise_behind_first : (x : ℕ) (xs : List ℕ) → IsStrictlyIncreasing (x ∷ xs)
    → IsStrictlyIncreasing xs
numbers_rise_behind_first x xs rises k k_lt_length =
    let next_is : suc k + 1 ≡ suc (k + 1) = omega arith in
    subst (λ n. slice_index xs k < slice_index (x ∷ xs) n) next_is (rises (suc k) (omega arith))

-- the first word has a lower number than a later one
first_lt_later : (number : Bytes → ℕ) (v : Bytes) (vs : List Bytes) (w : Bytes) (rest : List Bytes)
    → IsStrictlyIncreasing (map number (v ∷ (vs ++ w ∷ rest))) → number v < number w
first_lt_later number v [] w rest rises = rises 0 (omega arith)
first_lt_later number v (u ∷ vs) w rest rises =
    let next = rises 0 (omega arith) in
    let u_lt_w = first_lt_later number u vs w rest
    (numbers_rise_behind_first (number v) (map number (u ∷ (vs ++ w ∷ rest))) rises) in
    omega (arith, next, u_lt_w)

-- a word isn't among those before it
later_is_new : (number : Bytes → ℕ) (vs : List Bytes) (w : Bytes) (rest : List Bytes)
    → IsStrictlyIncreasing (map number (vs ++ w ∷ rest)) → is_in w vs ≡ false
later_is_new number [] w rest rises = refl
later_is_new number (v ∷ vs) w rest rises =
    let later = later_is_new number vs w rest
    (numbers_rise_behind_first (number v) (map number (vs ++ w ∷ rest)) rises) in
    by_cases (bytes_eq w v) refl later
  where
    by_cases : (b : Bool) → bytes_eq w v ≡ b → is_in w vs ≡ false → (b || is_in w vs) ≡ false
    by_cases true is_v later =
        let v_lt_w = first_lt_later number v vs w rest rises in
        absurd (omega (arith, v_lt_w, (ap number (equal_bytes_equal_words w v is_v))))
    by_cases false is_other later = later

-- the words up to a place begin with those before an earlier one and the word at that
pub words_around : (text : List ℕ) (ws : List spec.Word) (from i n : ℕ) → from ≤ i
    → i + 1 + n ≤ length ws
    → (rest : List Bytes)
    × (words (between text ws from (i + 1 + n))
    ≡ words (between text ws from i) ++ (token_at text ws i).word ∷ rest)
words_around text ws from i zero from_le_i end_le =
    let end_is : i + 1 + 0 ≡ i + 1 = omega arith in (
      [],
      ap (λ k. words (between text ws from k)) end_is
          ∙ sym (words_between_push text ws from i from_le_i (omega (arith, end_le))),
    )
words_around text ws from i (suc n) from_le_i end_le =
    let around = words_around text ws from i n from_le_i (omega (arith, end_le)) in
    let last = (token_at text ws (i + 1 + n)).word in (
      around.0 ++ last ∷ [],
      grind (
        arith,
        append_assoc,
        (around.1),
        (words_between_push text ws from (i + 1 + n) (omega arith) (omega (arith, end_le))),
      ),
    )

-- where numbers ascend, no word is among those before it
pub ascending_is_new : (text : List ℕ) (ws : List spec.Word) (ns : List Bytes) (from i to : ℕ)
    (numbers : List ℕ)
    → numbers ≡ numbers_in ns (between text ws from to) → from ≤ i → i < to → to ≤ length ws
    → IsStrictlyIncreasing numbers
    → is_in (token_at text ws i).word (words (between text ws from i)) ≡ false
ascending_is_new text ws ns from i to numbers numbers_are from_le_i i_lt_to to_le rises =
    let to_is : i + 1 + (to - (i + 1)) ≡ to = omega arith in
    let around = words_around text ws from i (to - (i + 1)) from_le_i (omega arith) in
    later_is_new (λ w. index_of w ns) (words (between text ws from i)) (token_at text ws i).word
    around.0
    (subst IsStrictlyIncreasing (numbers_are
    ∙ ap (λ n. numbers_in ns (between text ws from n)) (sym to_is)
    ∙ ap (map (λ w. index_of w ns)) around.1) rises)
