-- How many symbols there are: the symbols of lawful statements are declared, and there are no more
-- than tokens.
use Rattle.std.proofs.Common.{rules, ◌≡◌, ℕ, ◌<◌, ◌≤◌, true, List, [], ◌∷◌, ◌++◌, flat_map, length}
use Rattle.std.proofs.Common.{All, Some, slice_get, get_or, arith, bytes_eq, length-append}
use Rattle.std.proofs.lemmas.Grind.{common_steps, flat_map-append}
use Rattle.std.proofs.lemmas.List.{length-map}
use Rattle.std.proofs.lemmas.Option.{slice_get_within}
use Rattle.std.proofs.Math.Bool.{or-true}
use Rattle.mm_spec.specs.Text.{Bytes, Token, words, is_in}
use Rattle.mm_spec.specs.Statement.{Statement, symbols_of, spelling_of}
use Rattle.mm_spec.specs.Scope.{constants_of, variables_of}
use Rattle.mm_spec.specs.Lawful.{IsLawful}
use Rattle.mm_spec.specs.Frame.{symbol_names, index_of, first_occurrences, formula_at}
use Rattle.mm_spec.proofs.FindsLaw.{formula_at_place}
use Rattle.mm_spec.proofs.SymbolLaw.{lawful_symbols_are_declared}
use Rattle.mm_database.proofs.SymbolsLaw.{bytes_eq_itself, in_first_occurrences, name_at_index_of}
use Rattle.mm_outline.proofs.StatementsLaw.{element_of_mapped}

-- ---- symbols are declared

-- an element of a list is in it
element_is_in : (ws : List Bytes) (i : ℕ) (d : Bytes) → i < length ws
    → is_in (get_or ws i d) ws ≡ true
element_is_in ws i d h1 = grind (arith, common_steps, bytes_eq_itself, or-true, bytes_eq)

-- each symbol of a lawful statement has a name
pub symbol_is_declared_name : (db : List Statement) → ((k : ℕ) → k < length db → IsLawful db k)
    → (k : ℕ)
    → k < length db → (s : Statement) → slice_get db k ≡ Some s → (w : Bytes)
    → is_in w (words (symbols_of s)) ≡ true → is_in w (symbol_names db) ≡ true
symbol_is_declared_name db all_lawful k k_lt_length s s_is_statement_k w w_in_symbols =
    grind (arith, common_steps, in_first_occurrences, lawful_symbols_are_declared)

-- the symbols of a lawful statement are numbers of names
pub symbols_have_names : (db : List Statement) → ((k : ℕ) → k < length db → IsLawful db k) → (k : ℕ)
    → k < length db → (s : Statement) → slice_get db k ≡ Some s
    → All (λ x. x < length (symbol_names db)) (formula_at db k)
symbols_have_names db all_lawful k k_lt_length s s_is_statement_k =
    rw (formula_at_place db k s s_is_statement_k)
    (λ i d i_lt_length.
    let names = symbol_names db in
    let ws = words (symbols_of s) in
    let i_lt_symbol_count : i < length ws =
    omega (arith, i_lt_length, length-map ws (λ w. index_of w names)) in
    let w = get_or ws i [] in
    rw (element_of_mapped (λ w. index_of w names) ws i [] d i_lt_symbol_count)
    (slice_get_within names (index_of w names) w
    (search (rules, arith, name_at_index_of, symbol_is_declared_name, element_is_in))))

-- ---- lengths

-- a statement's symbols are among its tokens
symbols_spelled : (s : Statement) → length (symbols_of s) ≤ length (spelling_of s)
symbols_spelled s = grind (arith, common_steps, length-append)

-- a statement declares no more words than it has tokens
declared_spelled : (s : Statement)
    → length (constants_of s ++ variables_of s) ≤ length (spelling_of s)
declared_spelled s = grind (arith, common_steps, length-append, length-map, symbols_spelled)

-- if f gives no more of each statement than g, then no more of all of them
flat_map_no_longer : {X Y : Type 0} (f : Statement → List X) (g : Statement → List Y)
    → ((s : Statement) → length (f s) ≤ length (g s)) → (xs : List Statement)
    → length (flat_map f xs) ≤ length (flat_map g xs)
flat_map_no_longer f g f_le_g [] = omega arith
flat_map_no_longer f g f_le_g (x ∷ xs) =
    grind (arith, common_steps, length-append, (flat_map_no_longer f g f_le_g xs))

-- what f gives of the first statements is no more than what it gives of all
front_flat_map_no_longer : {X : Type 0} (f : Statement → List X) (xs ys : List Statement)
    → length (flat_map f xs) ≤ length (flat_map f (xs ++ ys))
front_flat_map_no_longer f xs ys = grind (arith, common_steps, flat_map-append, length-append)

-- words have no more first occurrences than there are words
first_occurrences_no_longer : (e ws : List Bytes) → length (first_occurrences e ws) ≤ length ws
first_occurrences_no_longer e [] = omega arith
first_occurrences_no_longer e (w ∷ ws) =
    grind (arith, first_occurrences_no_longer e ws, first_occurrences_no_longer (w ∷ e) ws)

-- statements that stand in front of a list of statements, which are the first of the tokens
module _ (ts later_tokens : List Token) (list : List Statement)
    (splits : ts ≡ flat_map spelling_of list ++ later_tokens)
    (db later_statements : List Statement) (list_is_db_and_more : list
    ≡ db ++ later_statements) where
  -- the symbols are no more than the tokens
  pub symbols_le_tokens : length (symbol_names db) ≤ length ts
  symbols_le_tokens =
      let declared_of = λ (s : Statement). constants_of s ++ variables_of s in
      let names_le_words = first_occurrences_no_longer [] (flat_map declared_of db) in
      let words_le_spelling =
      flat_map_no_longer declared_of spelling_of declared_spelled db in
      let front_le_whole = front_flat_map_no_longer spelling_of db later_statements in
      let append_length =
      length-append (flat_map spelling_of (db ++ later_statements)) later_tokens in
      rw (splits, list_is_db_and_more)
      (omega (arith, names_le_words, words_le_spelling, front_le_whole, append_length))
