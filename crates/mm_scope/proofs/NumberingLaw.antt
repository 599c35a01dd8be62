-- Symbols that are numbered before their statements are judged, by the names that all statements
-- declare.
use Rattle.std.proofs.Common.{◌≡◌, ◌≢◌, ◌<◌, ◌≤◌, ◌+◌, ◌-◌, ◌^◌, ℕ, Bool, true, false, List, []}
use Rattle.std.proofs.Common.{◌∷◌, ◌++◌, get_or-drop, length-drop, map, length, take, drop, get_or}
use Rattle.std.proofs.Common.{slice_get, slice_index_or, set, Option, None, Some, bytes_eq}
use Rattle.std.proofs.Common.{if◌then◌else◌, refl, sym, ap, ◌∙◌, arith, append-nil, append_assoc}
use Rattle.std.proofs.Common.{length-append, length-set, slice_range, subst, zero, suc, Result, Ok}
use Rattle.std.proofs.Common.{true≢false}
use Rattle.std.specs.List.{All, remove}
use Rattle.std.specs.Prelude.{IfOk}
use Rattle.std.proofs.lemmas.Grind.{common_steps, flat_map-append}
use Rattle.std.proofs.lemmas.Slice.Eq.{bytes_eq-Decides}
use Rattle.std.proofs.lemmas.List.{map-append, get_or-map, get_or-take, length-map, length-take}
use Rattle.std.proofs.lemmas.List.{length-take-le, take_more, take-append-drop}
use Rattle.std.proofs.lemmas.Bool.{cases_lt}
use Rattle.std.proofs.lemmas.Bool.Decides.{nat_tests}
use Rattle.std.proofs.Math.Seq.{drop-append_seam, take-append-add, take-append_seam}
use Rattle.std.proofs.lemmas.Option.{slice_get_past, slice_get_within}
use Rattle.mm_spec.specs.Text.{Bytes, Token, is_in, words}
use Rattle.mm_spec.specs.Scope.{depth, names_before}
use Rattle.mm_spec.specs.Lawful.{least, scope_fault, scope_faults}
use Rattle.mm_spec.specs.Statement.{Statement, symbols_of}
use Rattle.mm_spec.specs.Frame.{first_occurrences, formula_of, index_of, symbol_names}
use Rattle.mm_spec.specs.declared.Word.{Word}
use Rattle.mm_spec.specs.Laws.Table.{start, statements_from, statements_of}
use Rattle.mm_spec.proofs.LongestLaw.{read_statements_are_longest}
use Rattle.mm_spec.proofs.FindsLaw.{equal_bytes_equal_words}
use Rattle.mm_spec.proofs.LocalLaw.{scope_fault_front, scope_fault_of_next}
use Rattle.mm_outline.specs.Parts.{as_tokens, between, depth_after, token_at, token_of}
use Rattle.mm_outline.specs.Parts.{statement_of}
use Rattle.mm_outline.specs.declared.parts.Outline.{Outline}
use Rattle.mm_outline.specs.NextStatement.{Leads, tokens_from}
use Rattle.mm_outline.specs.Statements.{statements}
use Rattle.mm_outline.proofs.ProgressLaw.{leads_one_after_other}
use Rattle.mm_database.specs.Names.{with_name}
use Rattle.mm_database.specs.declared.names.SymbolEntry.{SymbolEntry}
use Rattle.mm_database.proofs.NamesLaw.{with_known_name_is_unchanged}
use Rattle.mm_database.proofs.SymbolsLaw.{bytes_eq_itself, name_at_index_of}
use Rattle.mm_database.proofs.SymbolsLaw.{missing_index_is_length}
use Rattle.mm_scope.specs.Outlines.{AreOutlinesFrom}
use Rattle.mm_scope.specs.declared.outlines.Rest.{Rest}
use Rattle.mm_scope.specs.Formulas.{AreNumbersOnward, IsNumberOnward, numbers_by, numbers_in}
use Rattle.mm_scope.specs.Numbering.{numbers_up_to}
use Rattle.mm_scope.specs.Scopes.{AreKnownAt}
use Rattle.mm_scope.proofs.JudgeLaw.{bytes_eq_sym, length_between}
use Rattle.mm_scope.proofs.BoundsLaw.{symbol_is_declared_name, symbols_le_tokens}
use Rattle.mm_scope.proofs.OutlinesLaw.{from_element}
use Rattle.mm_scope.proofs.NumberedLaw.{first_occurrences_grow, index_of_in_front, indices_equal}
use Rattle.mm_scope.proofs.NumberedLaw.{symbol_names_in_front, words_around}

-- ---- elements of a list that is changed

changed_here : {X : Type 0} (xs : List X) (n : ℕ) (y : X) → n < length xs
    → slice_get (set xs n y) n ≡ Some y
changed_here [] n y n_lt = absurd (omega (arith, n_lt))
changed_here (x ∷ xs) zero y n_lt = refl
changed_here (x ∷ xs) (suc n) y n_lt = changed_here xs n y (omega (arith, n_lt))

unchanged_elsewhere : {X : Type 0} (xs : List X) (n j : ℕ) (y : X) → j ≢ n
    → slice_get (set xs n y) j ≡ slice_get xs j
unchanged_elsewhere [] n j y j_ne_n = refl
unchanged_elsewhere (x ∷ xs) zero zero y j_ne_n = absurd (j_ne_n refl)
unchanged_elsewhere (x ∷ xs) zero (suc j) y j_ne_n = refl
unchanged_elsewhere (x ∷ xs) (suc n) zero y j_ne_n = refl
unchanged_elsewhere (x ∷ xs) (suc n) (suc j) y j_ne_n =
    unchanged_elsewhere xs n j y (λ e. j_ne_n (ap suc e))

added_behind : {X : Type 0} (xs : List X) (y : X) → slice_get (xs ++ y ∷ []) (length xs) ≡ Some y
added_behind [] y = refl
added_behind (x ∷ xs) y = added_behind xs y

unchanged_before : {X : Type 0} (xs ys : List X) (j : ℕ) → j < length xs
    → slice_get (xs ++ ys) j ≡ slice_get xs j
unchanged_before [] ys j j_lt = absurd (omega (arith, j_lt))
unchanged_before (x ∷ xs) ys zero j_lt = refl
unchanged_before (x ∷ xs) ys (suc j) j_lt = unchanged_before xs ys j (omega (arith, j_lt))

pub length_of_first : (xs : List ℕ) (n : ℕ) → n ≤ length xs → length (take n xs) ≡ n
length_of_first xs n n_le = length-take-le n xs n_le

-- the first elements and those between two places
pub first_and_range : (xs : List ℕ) (n m : ℕ) → n ≤ m → m ≤ length xs
    → take m xs ≡ take n xs ++ slice_range xs n m
first_and_range xs n m n_le_m m_le =
    let count = length_of_first xs n (omega (arith, n_le_m, m_le)) in
    let split : m ≡ length (take n xs) + (m - n) = omega (arith, count, n_le_m) in
    ap (take m) (sym (take-append-drop n xs)) ∙ ap (λ k. take k (take n xs ++ drop n xs)) split
    ∙ take-append-add (take n xs) (drop n xs) (m - n)

-- ---- the numbers of statements

-- the numbers up to one statement more are those up to it and its own
pub numbers_up_to_next : (names : List Bytes) (text : List ℕ) (ws : List Word) (os : List Outline)
    (i : ℕ) (default : Outline)
    → i < length os
    → numbers_up_to names text ws os (i + 1)
    ≡ numbers_up_to names text ws os i
    ++ numbers_in names (symbols_of (statement_of text ws (get_or os i default)))
numbers_up_to_next names text ws os i default i_lt_length =
    grind (arith, common_steps, take_more, map-append, flat_map-append, append-nil)

-- numbers by names that begin with those after a statement are such by those before it
pub numbers_onward_before : (db : List Statement) (s : Statement) (names : List Bytes)
    (ts : List Token) (numbers : List ℕ)
    → names ≡ symbol_names db → AreNumbersOnward (symbol_names (db ++ s ∷ [])) ts numbers
    → AreNumbersOnward names ts numbers
numbers_onward_before db s names ts numbers names_are are_numbers =
    let front = symbol_names_in_front db (s ∷ []) in (
      front.0 ++ are_numbers.0,
      are_numbers.1 ∙ ap (λ (ns : List Bytes). numbers_in ns ts)
          (ap (λ (ns : List Bytes). ns ++ are_numbers.0) front.1
          ∙ append_assoc (symbol_names db) front.0 are_numbers.0
          ∙ ap (λ (ns : List Bytes). ns ++ (front.0 ++ are_numbers.0)) (sym names_are)),
    )

module _ (db : List Statement) (lawful : (k : ℕ) → k < length db → scope_fault db k ≡ None)
    (s : Statement)
    (no_fault : None ≡ least (scope_faults (names_before db (length db)) (depth db (length db)) s))
  where
    abbrev longer_db : List Statement
    longer_db = db ++ s ∷ []

    longer_is_lawful : (k : ℕ) → k < length longer_db → scope_fault longer_db k ≡ None
    longer_is_lawful k k_lt =
        grind (arith, nat_tests, length-append, cases_lt, scope_fault_front, scope_fault_of_next)

    -- the numbers of a lawful statement's symbols, by whatever names may follow, are its formula
    pub numbers_are_formula : (numbers : List ℕ)
        → AreNumbersOnward (symbol_names longer_db) (symbols_of s) numbers
        → numbers ≡ formula_of longer_db s
    numbers_are_formula numbers are_numbers =
        let names = symbol_names longer_db in
        are_numbers.1 ∙ indices_equal (names ++ are_numbers.0) names (words (symbols_of s))
        (λ w w_in. index_of_in_front w names are_numbers.0
        (symbol_is_declared_name longer_db longer_is_lawful (length db)
        (omega (arith, length-append db (s ∷ []))) s (added_behind db s) w w_in))

-- ---- the next statement of all

module _ (text : List ℕ) (ws : List Word) (os : List Outline) (i : ℕ) (default : Outline)
    (i_lt_length : i < length os) where
  abbrev next : Statement
  next = statement_of text ws (get_or os i default)

  abbrev later_statements : List Statement
  later_statements = statements text ws (drop (i + 1) os)

  abbrev all_names : List Bytes
  all_names = symbol_names (statements text ws os)

  all_are : statements text ws os
      ≡ (statements text ws (take i os) ++ next ∷ []) ++ later_statements
  all_are =
      ap (λ list. statements text ws list)
      (sym (take-append-drop i os)
      ∙ ap (λ list. take i os ++ list) (from_element os i default i_lt_length))
      ∙ map-append (statement_of text ws) (take i os)
      (get_or os i default ∷ drop (i + 1) os)
      ∙ sym (append_assoc (statements text ws (take i os)) (next ∷ []) later_statements)

  -- the numbers of the next statement, by all names
  abbrev pub next_numbers : List ℕ
  next_numbers = numbers_in all_names (symbols_of next)

  pub next_are_numbers : AreNumbersOnward
      (symbol_names (statements text ws (take i os) ++ next ∷ [])) (symbols_of next) next_numbers
  next_are_numbers =
      let front = symbol_names_in_front (statements text ws (take i os) ++ next ∷ [])
      later_statements in (
        front.0,
        ap (λ (ns : List Bytes). numbers_in ns (symbols_of next))
            (ap symbol_names all_are ∙ front.1),
      )

  next_numbers_count : length next_numbers ≡ length (symbols_of next)
  next_numbers_count =
      length-map (words (symbols_of next)) (λ (w : Bytes). index_of w all_names)
      ∙ length-map (symbols_of next) (λ t. t.word)

  -- all numbers are those so far, those of the next statement, and the later ones
  module _ (before numbers : List ℕ)
      (left : numbers ≡ before ++ numbers_by all_names (statements text ws (drop i os))) where
    pub numbers_split : numbers ≡ before ++ (next_numbers ++ numbers_by all_names later_statements)
    numbers_split =
        left ∙ ap (λ list. before ++ numbers_by all_names (statements text ws list))
        (from_element os i default i_lt_length)

    pub next_numbers_are : (n m : ℕ) → n ≡ length before → m ≡ length (symbols_of next)
        → slice_range numbers n (n + m) ≡ next_numbers
    next_numbers_are n m n_is m_is =
        let later = numbers_by all_names later_statements in
        let count = next_numbers_count in
        let width : (n + m) - n ≡ length next_numbers = omega (arith, m_is, count) in
        ap (λ k. take k (drop n numbers)) width
        ∙ ap (λ k. take (length next_numbers) (drop k numbers)) n_is
        ∙ ap (λ (list : List ℕ). take (length next_numbers) (drop (length before) list))
        numbers_split
        ∙ ap (take (length next_numbers)) (drop-append_seam before (next_numbers ++ later))
        ∙ take-append_seam next_numbers later

    pub next_numbers_fit : (m : ℕ) → m ≡ length (symbols_of next)
        → length before + m ≤ length numbers
    next_numbers_fit m m_is =
        let later = numbers_by all_names later_statements in
        omega (
          arith,
          ap length numbers_split,
          length-append before (next_numbers ++ later),
          length-append next_numbers later,
          next_numbers_count,
          m_is,
        )

    pub numbers_left : numbers ≡ (before ++ next_numbers) ++ numbers_by all_names later_statements
    numbers_left = numbers_split ∙ sym (append_assoc before next_numbers
        (numbers_by all_names later_statements))

-- there are as many numbers as tokens between two places
pub number_count : (ns : List Bytes) (text : List ℕ) (ws : List Word) (first to : ℕ)
    (numbers : List ℕ)
    → numbers ≡ numbers_in ns (between text ws first to) → first ≤ to → to ≤ length ws
    → length numbers ≡ to - first
number_count ns text ws first to numbers numbers_are first_le_to to_le_length =
    rw numbers_are (grind (arith, common_steps, length-map, length_between))

-- the number that stands as far from the first one as the token from the first is that of its word
pub number_at : (ns : List Bytes) (text : List ℕ) (ws : List Word) (first i to : ℕ)
    (numbers : List ℕ)
    → numbers ≡ numbers_in ns (between text ws first to) → first ≤ i → i < to → to ≤ length ws
    → (default : ℕ) → get_or numbers (i - first) default ≡ index_of (token_at text ws i).word ns
number_at ns text ws first i to numbers numbers_are first_le_i i_lt_to to_le_length default =
    let no_word : Word = record { start = 0; end = 0 } in
    let no_token = token_of text no_word in
    let k = i - first in
    let xs = take (to - first) (drop first ws) in
    let ts = map (token_of text) xs in
    let is_within : k < length xs =
    omega (arith, length-take (to - first) (drop first ws), length-drop first ws) in
    let place : first + k ≡ i = omega arith in
    ap (λ (l : List ℕ). get_or l k default) numbers_are
    ∙ get_or-map (λ (w : Bytes). index_of w ns) (words ts) k [] default
    (rw (length-map ts (λ t. t.word), length-map xs (token_of text)) is_within)
    ∙ ap (λ (w : Bytes). index_of w ns)
    (get_or-map (λ t. t.word) ts k no_token [] (rw (length-map xs (token_of text)) is_within)
    ∙ ap (λ t. t.word) (get_or-map (token_of text) xs k no_word no_token is_within
    ∙ ap (token_of text) (get_or-take (to - first) (drop first ws) k no_word (omega arith)
    ∙ get_or-drop first ws k no_word ∙ ap (λ j. get_or ws j no_word) place)))

-- where the names begin with those after the words of a list, the number of each word is one by
-- names that begin with those before it
pub number_among_declared : (text : List ℕ) (ws : List Word) (from i to : ℕ) (d names : List Bytes)
    (numbers : List ℕ)
    → AreNumbersOnward (first_occurrences [] (d ++ words (between text ws from to)))
    (between text ws from to) numbers
    → names ≡ first_occurrences [] (d ++ words (between text ws from i))
    → from ≤ i → i < to → to ≤ length ws
    → (default : ℕ)
    → IsNumberOnward names (token_at text ws i).word (get_or numbers (i - from) default)
number_among_declared text ws from i to d names numbers are_numbers names_are from_le_i i_lt_to
    to_le default =
    let w = (token_at text ws i).word in
    let later = are_numbers.0 in
    let to_is : i + 1 + (to - (i + 1)) ≡ to = omega arith in
    let around = words_around text ws from i (to - (i + 1)) from_le_i (omega arith) in
    let before = words (between text ws from i) in
    let grown = first_occurrences_grow (d ++ before) (w ∷ around.0) in
    let names_grow : first_occurrences [] (d ++ words (between text ws from to))
    ≡ names ++ grown.0 =
    ap (λ n. first_occurrences [] (d ++ words (between text ws from n))) (sym to_is)
    ∙ ap (λ (vs : List Bytes). first_occurrences [] (d ++ vs)) around.1
    ∙ ap (first_occurrences []) (sym (append_assoc d before (w ∷ around.0)))
    ∙ grown.1
    ∙ ap (λ (ns : List Bytes). ns ++ grown.0) (sym names_are) in (
      grown.0 ++ later,
      number_at (first_occurrences [] (d ++ words (between text ws from to)) ++ later) text ws from
          i to numbers are_numbers.1 from_le_i i_lt_to to_le default
          ∙ ap (λ (ns : List Bytes). index_of w (ns ++ later)) names_grow
          ∙ ap (index_of w) (append_assoc names grown.0 later),
    )

-- ---- what is known of the symbols, by their numbers

-- the index of a word that isn't among the first names is behind them
index_of_behind : (w : Bytes) (ns later : List Bytes) → is_in w ns ≡ false
    → index_of w (ns ++ later) ≡ length ns + index_of w later
index_of_behind w [] later w_not_in = omega arith
index_of_behind w (n ∷ ns) later w_not_in = grind (arith, common_steps, index_of_behind w ns later)

-- a number by names that begin with these is an index among them, if it isn't behind them
pub number_is_index : (w : Bytes) (names : List Bytes) (n : ℕ) → IsNumberOnward names w n
    → n < length names
    → n ≡ index_of w names
number_is_index w names n (later, n_is) n_lt = by_cases (is_in w names) refl
  where
    by_cases : (b : Bool) → is_in w names ≡ b → n ≡ index_of w names
    by_cases true w_in = n_is ∙ index_of_in_front w names later w_in
    by_cases false w_not_in =
        let behind = index_of_behind w names later w_not_in in
        absurd (omega (arith, n_lt, n_is, behind))

-- if it is behind them, the word isn't among them
pub number_is_behind : (w : Bytes) (names : List Bytes) (n : ℕ) → IsNumberOnward names w n
    → length names ≤ n
    → length names ≤ index_of w names
number_is_behind w names n (later, n_is) n_ge = by_cases (is_in w names) refl
  where
    by_cases : (b : Bool) → is_in w names ≡ b → length names ≤ index_of w names
    by_cases true w_in =
        let same = n_is ∙ index_of_in_front w names later w_in in
        omega (arith, n_ge, same)
    by_cases false w_not_in =
        let missing = missing_index_is_length w names w_not_in in
        omega (arith, missing)

-- a word is the first one of a list that begins with it
index_of_itself : (w : Bytes) → index_of w (w ∷ []) ≡ 0
index_of_itself w = grind (arith, common_steps, bytes_eq_itself)

-- another word isn't in that list
index_of_other : (w v : Bytes) → bytes_eq v w ≡ false → index_of w (v ∷ []) ≡ 1
index_of_other w v other = grind (arith, common_steps, bytes_eq_sym)

-- two words with the index of a name are equal
equal_by_index : (v w : Bytes) (ns : List Bytes) → index_of v ns < length ns
    → index_of w ns ≡ index_of v ns → bytes_eq v w ≡ true
equal_by_index v w [] v_lt same = absurd (omega (arith, v_lt))
equal_by_index v w (n ∷ ns) v_lt same =
    grind (arith, common_steps, bytes_eq-Decides, equal_by_index v w ns)

module _ (names : List Bytes) (look : Bytes → Option SymbolEntry) (known : List SymbolEntry)
    (are_known : AreKnownAt names look known) where
  -- what stands at the number that a word has, or will have, is what is known of the word
  pub known_at_number : (w : Bytes) (later : List Bytes) (n : ℕ) → n ≡ index_of w (names ++ later)
      → slice_get known n ≡ look w
  known_at_number w later n n_is = by_cases (is_in w names) refl
    where
      by_cases : (b : Bool) → is_in w names ≡ b → slice_get known n ≡ look w
      by_cases true w_in =
          ap (slice_get known) (n_is ∙ index_of_in_front w names later w_in)
          ∙ sym (are_known.entry w)
      by_cases false w_not_in =
          let count = are_known.count in
          let missing = missing_index_is_length w names w_not_in in
          slice_get_past known n
          (omega (arith, count, n_is, index_of_behind w names later w_not_in))
          ∙ sym (slice_get_past known (index_of w names) (omega (arith, count, missing)))
          ∙ sym (are_known.entry w)

  -- a word whose index is that of a name is among the names
  among : (v : Bytes) → index_of v names < length names → is_in v names ≡ true
  among v v_lt = by_cases (is_in v names) refl
    where
      by_cases : (b : Bool) → is_in v names ≡ b → is_in v names ≡ true
      by_cases true v_in = v_in
      by_cases false v_not_in =
          let missing = missing_index_is_length v names v_not_in in
          absurd (omega (arith, v_lt, missing))

  -- a word whose index is the number of names isn't among them
  not_among : (v : Bytes) → length names ≤ index_of v names → is_in v names ≡ false
  not_among v v_ge = by_cases (is_in v names) refl
    where
      by_cases : (b : Bool) → is_in v names ≡ b → is_in v names ≡ false
      by_cases true v_in =
          let v_lt = slice_get_within names (index_of v names) v (name_at_index_of names v v_in) in
          absurd (omega (arith, v_ge, v_lt))
      by_cases false v_not_in = v_not_in

  -- what is known once something else is known of a word
  module _ (v : Bytes) (e : SymbolEntry) (after : Bytes → Option SymbolEntry)
      (changes : (w : Bytes) → after w ≡ (if bytes_eq v w then Some e else look w)) (n : ℕ)
      (n_is : n ≡ index_of v names) where
    -- what stands at the number of a name is changed
    pub known_after_change : n < length known → AreKnownAt (with_name v names) after (set known n e)
    known_after_change n_lt =
        let count = are_known.count in
        rw (with_known_name_is_unchanged v names (among v (omega (arith, n_is, n_lt, count))))
        (record {
          count = length-set known n e ∙ count;
          entry = λ w. entry_by w (bytes_eq v w) refl;
        })
      where
        entry_by : (w : Bytes) (b : Bool) → bytes_eq v w ≡ b
            → after w ≡ slice_get (set known n e) (index_of w names)
        entry_by w true same =
            changes w ∙ ap (λ b. if b then Some e else look w) same
            ∙ sym (changed_here known n e n_lt)
            ∙ ap (slice_get (set known n e))
            (n_is ∙ ap (λ u. index_of u names) (equal_bytes_equal_words v w same))
        entry_by w false other =
            let count = are_known.count in
            changes w ∙ ap (λ b. if b then Some e else look w) other ∙ are_known.entry w
            ∙ sym (unchanged_elsewhere known n (index_of w names) e
            (λ same. true≢false (sym (equal_by_index v w names (omega (arith, n_is, n_lt, count))
            (same ∙ n_is)) ∙ other)))

    -- what is known of a new name is added
    pub known_with_new : length known ≤ n → AreKnownAt (with_name v names) after (known ++ e ∷ [])
    known_with_new n_ge =
        let count = are_known.count in
        let v_not_in = not_among v (omega (arith, n_is, n_ge, count)) in
        rw (ap (λ b. if b then names else (names ++ v ∷ [])) v_not_in) (record {
          count =
              length-append known (e ∷ []) ∙ ap (λ k. k + 1) count
              ∙ sym (length-append names (v ∷ []));
          entry = λ w. entry_by w (bytes_eq v w) refl;
        })
      where
        entry_by : (w : Bytes) (b : Bool) → bytes_eq v w ≡ b
            → after w ≡ slice_get (known ++ e ∷ []) (index_of w (names ++ v ∷ []))
        entry_by w true same =
            let count = are_known.count in
            let v_not_in = not_among v (omega (arith, n_is, n_ge, count)) in
            changes w ∙ ap (λ b. if b then Some e else look w) same
            ∙ sym (added_behind known e)
            ∙ ap (slice_get (known ++ e ∷ [])) (count
            ∙ sym (ap (λ k. length names + k) (index_of_itself v)
            ∙ omega arith)
            ∙ sym (index_of_behind v names (v ∷ []) v_not_in)
            ∙ ap (λ u. index_of u (names ++ v ∷ [])) (equal_bytes_equal_words v w same))
        entry_by w false other =
            changes w ∙ ap (λ b. if b then Some e else look w) other
            ∙ by_cases (is_in w names) refl
          where
            by_cases : (b : Bool) → is_in w names ≡ b
                → look w ≡ slice_get (known ++ e ∷ []) (index_of w (names ++ v ∷ []))
            by_cases true w_in =
                are_known.entry w
                ∙ sym (unchanged_before known (e ∷ []) (index_of w names)
                (let w_lt = slice_get_within names (index_of w names) w
                (name_at_index_of names w w_in) in
                let count = are_known.count in
                omega (arith, w_lt, count)))
                ∙ sym (ap (slice_get (known ++ e ∷ [])) (index_of_in_front w names (v ∷ []) w_in))
            by_cases false w_not_in =
                let count = are_known.count in
                let missing = missing_index_is_length w names w_not_in in
                let behind = index_of_behind w names (v ∷ []) w_not_in in
                let not_first = index_of_other w v other in
                are_known.entry w
                ∙ slice_get_past known (index_of w names) (omega (arith, count, missing))
                ∙ sym (slice_get_past (known ++ e ∷ []) (index_of w (names ++ v ∷ []))
                (let longer = length-append known (e ∷ []) in
                omega (arith, longer, count, behind, not_first)))

-- ---- stretches put together

-- of a list of results that are what they should be, if they are any, the first is, and so are the
-- later ones
pub first_and_later : {X E : Type 0} (P : X → Type 0) (rs : List (Result X E)) (r : Result X E)
    (x : X)
    → All (λ s. IfOk s P) rs → 0 < length rs → r ≡ slice_index_or rs 0 r → r ≡ Ok x
    → P x × All (λ s. IfOk s P) (remove rs 0)
first_and_later P [] r x are 0_lt r_is r_is_ok = absurd (omega (arith, 0_lt))
first_and_later P (s ∷ rs) r x are 0_lt r_is r_is_ok = (
  subst (λ t. IfOk t P) (sym r_is ∙ r_is_ok) (are 0 s (omega arith)),
  λ k d k_lt. are (suc k) d (omega (arith, k_lt)),
)

-- ---- how many names there are

-- the outlines that are found lead from one place to another
outlines_lead : (text : List ℕ) (ws : List Word) (rest : Rest) (d from : ℕ) (os : List Outline)
    → AreOutlinesFrom text ws d from os rest
    → (e to : ℕ) × Leads (start d) (tokens_from text ws from) (statements text ws os) (start e)
    (tokens_from text ws to)
outlines_lead text ws rest d from [] found =
    (d, from, record { statements = refl; fault_stays = refl; progress_stays = refl })
outlines_lead text ws rest d from (o ∷ os) found =
    let later = outlines_lead text ws rest (depth_after o.kind d) (o.end + 1) os found.1 in
    (later.0, later.1, leads_one_after_other found.0.1.leads later.2)

-- there are fewer names than 2^31, since there are no more than tokens
pub few_names : (text : List ℕ) (ws : List Word) (rest : Rest) (os : List Outline)
    → AreOutlinesFrom text ws 0 0 os rest → length ws < 2 ^ 31
    → length (symbol_names (statements text ws os)) < 2 ^ 31
few_names text ws rest os found few_tokens =
    let ts = as_tokens text ws in
    let lead = outlines_lead text ws rest 0 0 os found in
    let longest = read_statements_are_longest ts in
    let names_le_tokens = symbols_le_tokens ts longest.rest (statements_of ts) longest.splits
    (statements text ws os) (statements_from (start lead.0) (tokens_from text ws lead.1))
    lead.2.statements in
    omega (arith, names_le_tokens, length-map ws (token_of text), few_tokens)
